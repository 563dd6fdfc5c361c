-- The commonest lines of entries begin a text.
use Rattle.std.proofs.Common.{◌≡◌, ℕ, List, ◌∷◌, ◌++◌, append_assoc, ap, ◌∙◌, arith, codes}
use Rattle.history_text.specs.Below.{End, Mode, Word, HasWords, IsWritten, ended}
use Rattle.history.specs.declared.entry.End.TheVariants as end
use Rattle.history.specs.declared.entry.Word.TheVariants as word
use Rattle.history.specs.inner.EntryWords.{IsAsked}
use Rattle.streams.specs.Once.{AsksOnce}
use Rattle.streams.proofs.AskingOnce.{asked_behind}
use Rattle.history_text.specs.CommonEntry.{once}
use Rattle.history_text.specs.inner.CommonEntry.{BeginsWith, asked_name}

pub written_once : (seat : ℕ) (w : Word) (m : Mode) (how : End) → HasWords w m 1 0 how →
    IsWritten (once seat w m how)
written_once seat w m how words = record { words = words; amount = omega arith; condition = omega arith }

pub asked_begins : (text after : List ℕ) (seat : ℕ) (w : Word) (found : Mode × ℕ) → IsAsked w →
    text ≡ asked_name w ++ 32 ∷ after → AsksOnce after found
    → BeginsWith text (once seat w found.0 end.None, found.1)
asked_begins text after seat w found is named asks =
    let begins = asked_behind (asked_name w) text after found named asks in
    grind (arith, begins, written_once seat w found.0 end.None)

-- a number, a seat and words begin a text
pub line_begins : (number seat words text behind tail rest : List ℕ) → text ≡ number ++ 32 ∷ behind →
    behind ≡ seat ++ 32 ∷ tail
    → tail ≡ ended words ++ rest → text ≡ ended (number ++ codes " " ++ seat ++ codes " " ++ words) ++ rest
line_begins number seat words text behind tail rest p q r =
    p ∙ ap (λ (t : List ℕ). number ++ 32 ∷ t) (q ∙ ap (λ (t : List ℕ). seat ++ 32 ∷ t) r)
    ∙ grouped number seat words rest
  where
    grouped : (a b c d : List ℕ) →
        a ++ 32 ∷ (b ++ 32 ∷ (ended c ++ d)) ≡ ended (a ++ codes " " ++ b ++ codes " " ++ c) ++ d
    grouped a b c d = simp append_assoc
