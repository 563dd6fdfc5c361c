-- Who joins the line owns nothing, and asks for what the object has.
use Rattle.std.proofs.Common.{◌≡◌, ⊎_elim, ℕ, ◌<◌, ◌≤◌, true, false, List, Option, Some, None, Ok, refl, ap, ◌∙◌, sym, subst, arith, ℤ}
use Rattle.std.proofs.lemmas.Bool.Decides.{nat_tests}
use Rattle.history.specs.Prelude.{Entry, Mode, X, Object, Lock, ReadWrite, Step, count, counts, free, held, owner, readers, is_wrong_mode, lacks_mode, first_mode, is_lock, IsOwned, most_exclusive, most_shared, Idle, phase, Start, acquired, entry_for, idle_entry, phase_entry}
use Rattle.history.specs.declared.entry.End.TheVariants as end
use Rattle.history.specs.declared.entry.Word.TheVariants as word
use Rattle.history.specs.declared.fault.Fault.TheVariants as fault
use Rattle.history.specs.declared.step.Step.TheVariants as step
use Rattle.history.proofs.Alike.{numbers}
use Rattle.history.proofs.Entering.{GaveWord, admitted, gave_word}
use Rattle.history.proofs.OneOwner.{none_or_some}
use Rattle.history.proofs.Owners.{nobody_holds, owner_holds}

-- which steps make an acquire join the line
abbrev Joins : Start → List Entry → ℕ → Step → Type 0
Joins s h i (step.Acquire m n) = acquired (counts s h) (first_mode s h) i m n ≡ word.Queued
Joins s h i _ = ⊥

module _ (s : Start) (h : List Entry) (i : ℕ) where
  joins : (x : Step) → (idle_entry s h i x).word ≡ word.Queued → Joins s h i x
  joins (step.Acquire m n) q = q
  joins (step.Give m n) q =
      subst (GaveWord s.header.object) q (gave_word s.header.object (counts s h) i m n)
  joins _ q = grind arith

-- An owner's call is reentrant: it takes, or is at its limit.
module _ (n : ℕ) (had : ℕ → Mode → ℕ) (f : ℤ) (c : ℕ) (first : Option Mode) (i x : ℕ) where
  owner_takes : (o : Object) (m : Mode) → is_lock o ≡ true → lacks_mode o m ≡ false →
      owner (numbers o n had f c) ≡ Some i → had i X ≤ most_exclusive o →
      readers (numbers o n had f c) ≤ most_shared o →
      acquired (numbers o n had f c) first i m x ≡ word.Queued → ⊥
  owner_takes (Lock p) m lock has owns most few q = grind (arith, nat_tests)
  owner_takes (ReadWrite p) m lock has owns most few q = grind (arith, nat_tests)
  owner_takes _ m lock has owns most few q = cc

-- Whoever joins the line of a lock owns nothing.
pub joining_owns_nothing : (s : Start) (h : List Entry) (x : Step) (e : Entry) → IsOwned s h →
    is_lock s.header.object ≡ true → e.seat < s.header.seats → phase s h e.seat ≡ Idle →
    entry_for s h e.seat x ≡ Ok (Some e) → e.word ≡ word.Queued → held s h e.seat X ≡ 0
joining_owns_nothing s h x e owned lock seat idle q w = by x made_here (admitted s h e.seat x e q).mode
  where
    some_same : (d : Entry) → Some d ≡ Some e → d ≡ e
    some_same d r = cc

    made : idle_entry s h e.seat x ≡ e
    made =
        some_same (idle_entry s h e.seat x)
        (sym (ap (phase_entry s h e.seat x) idle) ∙ (admitted s h e.seat x e q).made)

    made_here : Joins s h e.seat x
    made_here = joins s h e.seat x (ap (λ (d : Entry). d.word) made ∙ w)

    owner_is : 0 < held s h e.seat X → (o : Option ℕ) → owner (counts s h) ≡ o → o ≡ Some e.seat
    owner_is some None r = absurd (omega (arith, some, nobody_holds (counts s h) e.seat r seat))
    owner_is some (Some j) r =
        ap Some (owned.one j e.seat (owner_holds (counts s h) j r).1 some)

    by : (x : Step) → Joins s h e.seat x → is_wrong_mode s.header.object x ≡ false → held s h e.seat X ≡ 0
    by (step.Acquire m n) queued has =
        ⊎_elim (λ z. z)
        (λ some. absurd (owner_takes s.header.seats (held s h) (free s h) (count s h) (first_mode s h)
        e.seat n s.header.object m lock has (owner_is some (owner (counts s h)) refl) (owned.exclusive e.seat)
        owned.shared queued))
        (none_or_some (held s h e.seat X))
    by _ queued has = absurd queued
