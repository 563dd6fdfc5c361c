-- Lines that ask for 1.
use Rattle.std.proofs.Common.{◌≡◌, ℕ, List, [], ◌∷◌, ◌++◌, length, decimal, append_assoc, ap, ◌∙◌, arith, codes}
use Rattle.std.proofs.lemmas.Fmt.{decimal_digit}
use Rattle.history.specs.declared.entry.Mode.{Mode}
use Rattle.history.specs.EntryWords.{mode_word}
use Rattle.history.specs.Text.{ended}
use Rattle.streams.specs.Once.{AsksOnce}

pub one_spelt : decimal 1 ≡ 49 ∷ []
one_spelt = decimal_digit 1 (omega arith)

-- a name, a mode and 1 are a line that begins the text
pub asked_behind : (name text after : List ℕ) (found : Mode × ℕ) → text ≡ name ++ 32 ∷ after →
    AsksOnce after found
    → (rest : List ℕ) × (text ≡ ended (name ++ 32 ∷ (mode_word found.0 ++ 32 ∷ decimal 1)) ++ rest)
    × (length rest ≡ found.1)
asked_behind name text after (m, left) named (rest, asked, long) = (
  rest,
  rw one_spelt (named ∙ ap (λ (t : List ℕ). name ++ 32 ∷ t) asked
      ∙ grouped name (mode_word m) rest),
  long,
)
  where
    grouped : (name mode rest : List ℕ) →
        name ++ 32 ∷ ((mode ++ codes " 1" ++ 10 ∷ []) ++ rest) ≡ ended (name ++ 32 ∷ (mode ++ 32 ∷ 49 ∷ []))
        ++ rest
    grouped name mode rest = simp append_assoc
