-- The lines of a steps text are short.
use Rattle.std.proofs.Common.{◌≡◌, ℕ, ◌<◌, ◌≤◌, ◌^◌, List, [], ◌∷◌, length, arith, decimal, codes, length-append}
use Rattle.steps.specs.Below.{Step, Acquire, Try, TryFair, EntryInterrupt, Give, Look, Expire, Interrupt, Await, Signal, SignalAll, Drain, ended, HasShortLines, Act, Do, Trim, IsInRange}
use Rattle.streams.proofs.Lengths.{AreShort, decimal_short, header_short, line_length, mode_short}
use Rattle.steps.specs.declared.header.Format.{Format}
use Rattle.steps.specs.declared.header.Format.TheVariants.{One, Two}
use Rattle.steps.specs.declared.header.StepsHeader.{StepsHeader}
use Rattle.steps.specs.StepLines.{
  HasAmounts,
  IsAct,
  IsStep,
  act_line,
  end_line,
  name_of,
  step_line,
  step_words,
}
use Rattle.steps.specs.StepsText.{steps_form}

words_short : (s : Step) → HasAmounts s → AreShort (step_words s) × (length (step_words s) ≤ 3)
words_short (Acquire m n) lt =
    ((omega arith, (mode_short m, (decimal_short n (omega (arith, lt)), tt))), omega arith)
words_short (Try m n) lt =
    ((omega arith, (mode_short m, (decimal_short n (omega (arith, lt)), tt))), omega arith)
words_short (TryFair m n) lt =
    ((omega arith, (mode_short m, (decimal_short n (omega (arith, lt)), tt))), omega arith)
words_short (EntryInterrupt m n) lt =
    ((omega arith, (mode_short m, (decimal_short n (omega (arith, lt)), tt))), omega arith)
words_short (Give m n) lt =
    ((omega arith, (mode_short m, (decimal_short n (omega (arith, lt)), tt))), omega arith)
words_short Look lt = ((omega arith, tt), omega arith)
words_short Expire lt = ((omega arith, tt), omega arith)
words_short Interrupt lt = ((omega arith, tt), omega arith)
words_short (Await c) lt = ((omega arith, (decimal_short c (omega (arith, lt)), tt)), omega arith)
words_short (Signal c) lt = ((omega arith, (decimal_short c (omega (arith, lt)), tt)), omega arith)
words_short (SignalAll c) lt = ((omega arith, (decimal_short c (omega (arith, lt)), tt)), omega arith)
words_short Drain lt = ((omega arith, tt), omega arith)

step_short : (seats : ℕ) (s : ℕ × Step) → seats ≤ 256 → IsStep seats s → length (step_line s) < 256
step_short seats s small fits =
    let words = words_short s.1 fits.1 in
    omega (
      arith,
      words.1,
      line_length (decimal s.0 ∷ step_words s.1) (decimal_short s.0 (omega (arith, small, fits.0)), words.0),
    )

pub end_short : (count : ℕ) → count < 2 ^ 64 → length (end_line count) < 255
end_short count lt =
    omega (arith, decimal_short count lt, length-append (codes "end ") (decimal count))

act_short : (h : StepsHeader) (a : Act) → IsInRange h.header → IsAct h a → length (act_line a) < 256
act_short h (Do i step) header fits = step_short h.header.seats (i, step) header.seats fits
act_short h Trim header fits = omega arith

name_short : (f : Format) → length (name_of f) ≤ 20
name_short One = omega arith
name_short Two = omega arith

pub short : HasShortLines steps_form 256
short =
    record {
      header = λ h fits. header_short (name_of h.format) h.header (name_short h.format) fits;
      item = λ h before a header each fits. act_short h a header fits;
      end = λ h acts header each lt. omega (arith, end_short (length acts) (omega (arith, lt)));
    }

-- the end line and its break
pub ended_short : (line : List ℕ) (count : ℕ) → count < 2 ^ 64 → line ≡ ended (end_line count) →
    length line ≤ 255
ended_short line count lt is = rw is (omega (
  arith,
  end_short count lt,
  length-append (end_line count) (10 ∷ []),
))
