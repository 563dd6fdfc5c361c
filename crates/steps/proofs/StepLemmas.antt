-- What a step line spells is read again.
use Rattle.std.proofs.Common.{◌≡◌, ℕ, ◌-◌, ◌^◌, ◌<◌, [], ◌∷◌, Some, refl, ap, ◌∙◌, arith, decimal, le-leb}
use Rattle.steps.specs.Below.{words_of, mode_word, Words, Mode, X, S, Step, Acquire, Try, TryFair, EntryInterrupt, Give, Look, Expire, Interrupt, Await, Signal, SignalAll, Drain}
use Rattle.history.proofs.Numbers.{number_again}
use Rattle.history.proofs.EntryAgain.{mode_plain}
use Rattle.history.proofs.Plain.{ArePlain, words_again, decimal_plain}
use Rattle.steps.specs.StepLines.{step_words, step_line, IsStep, HasAmounts}
use Rattle.steps.specs.StepReading.{asked_at, condition_at, alone_at, unasked_at, step_at, line_at}

pub asked_again : (m : Mode) (n : ℕ) (ws : Words) → n < 2 ^ 32 →
    asked_at (mode_word m ∷ decimal n ∷ ws) ≡ Some ((m, n), ws)
unfolding asked_at
asked_again X n ws lt =
    rw (number_again n (omega arith), le-leb 0 n (omega arith), le-leb n 4294967295 (omega arith)) refl
asked_again S n ws lt =
    rw (number_again n (omega arith), le-leb 0 n (omega arith), le-leb n 4294967295 (omega arith)) refl

pub condition_again : (c : ℕ) (ws : Words) → c < 2 ^ 8 → condition_at (decimal c ∷ ws) ≡ Some (c, ws)
unfolding condition_at
condition_again c ws lt =
    rw (number_again c (omega arith), le-leb 0 c (omega arith), le-leb c 255 (omega arith)) refl

step_again : (s : Step) → HasAmounts s → step_at (step_words s) ≡ Some (s, [])
unfolding step_at unasked_at alone_at
step_again (Acquire m n) lt = rw (asked_again m n [] lt) refl
step_again (Try m n) lt = rw (asked_again m n [] lt) refl
step_again (TryFair m n) lt = rw (asked_again m n [] lt) refl
step_again (EntryInterrupt m n) lt = rw (asked_again m n [] lt) refl
step_again (Give m n) lt = rw (asked_again m n [] lt) refl
step_again Look lt = refl
step_again Expire lt = refl
step_again Interrupt lt = refl
step_again (Await c) lt = rw (condition_again c [] lt) refl
step_again (Signal c) lt = rw (condition_again c [] lt) refl
step_again (SignalAll c) lt = rw (condition_again c [] lt) refl
step_again Drain lt = refl

line_again : (seats : ℕ) (s : ℕ × Step) → seats < 2 ^ 32 → IsStep seats s →
    line_at seats (decimal s.0 ∷ step_words s.1) ≡ Some (s, [])
line_again seats s small fits =
    rw (
      number_again s.0 (omega (arith, fits.0)),
      le-leb 0 s.0 (omega arith),
      le-leb s.0 (seats - 1) (omega (arith, fits.0)),
      step_again s.1 fits.1,
    ) refl

step_plain : (s : Step) → HasAmounts s → ArePlain (step_words s)
step_plain (Acquire m n) lt = (refl, (mode_plain m, (decimal_plain n (omega (arith, lt)), tt)))
step_plain (Try m n) lt = (refl, (mode_plain m, (decimal_plain n (omega (arith, lt)), tt)))
step_plain (TryFair m n) lt = (refl, (mode_plain m, (decimal_plain n (omega (arith, lt)), tt)))
step_plain (EntryInterrupt m n) lt = (refl, (mode_plain m, (decimal_plain n (omega (arith, lt)), tt)))
step_plain (Give m n) lt = (refl, (mode_plain m, (decimal_plain n (omega (arith, lt)), tt)))
step_plain Look lt = (refl, tt)
step_plain Expire lt = (refl, tt)
step_plain Interrupt lt = (refl, tt)
step_plain (Await c) lt = (refl, (decimal_plain c (omega (arith, lt)), tt))
step_plain (Signal c) lt = (refl, (decimal_plain c (omega (arith, lt)), tt))
step_plain (SignalAll c) lt = (refl, (decimal_plain c (omega (arith, lt)), tt))
step_plain Drain lt = (refl, tt)

pub line_plain : (seats : ℕ) (s : ℕ × Step) → seats < 2 ^ 32 → IsStep seats s →
    ArePlain (decimal s.0 ∷ step_words s.1)
line_plain seats s small fits = (decimal_plain s.0 (omega (arith, fits.0)), step_plain s.1 fits.1)

pub whole_line : (seats : ℕ) (s : ℕ × Step) → seats < 2 ^ 32 → IsStep seats s →
    line_at seats (words_of (step_line s)) ≡ Some (s, [])
whole_line seats s small fits =
    ap (line_at seats) (words_again (decimal s.0) (step_words s.1) (line_plain seats s small fits))
    ∙ line_again seats s small fits
