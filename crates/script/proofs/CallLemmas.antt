-- What a call spells is read again.
use Rattle.std.proofs.Common.{◌≡◌, ℕ, List, [], ◌∷◌, ◌++◌, Some, refl, ap, ◌∙◌, arith, decimal}
use Rattle.history.specs.Text.{line_of, words_of}
use Rattle.history.specs.Reading.{Words}
use Rattle.history.proofs.Numbers.{number_at_again}
use Rattle.history.proofs.Plain.{ArePlain, words_again, decimal_plain}
use Rattle.history.proofs.EntryAgain.{mode_plain}
use Rattle.steps.proofs.StepLemmas.{asked_again, condition_again}
use Rattle.monitor.specs.declared.how.How.TheVariants.{Plain, Interruptible, Timed}
use Rattle.script.specs.Prelude.{Action, Acquire, TryAcquire, Release, AwaitOn, Signal, SignalAll, Drain, Trim, MOST_MILLISECONDS, action_words, HasAmounts}
use Rattle.script.specs.inner.CallReading.{timed_at, timed_acquire_at, timed_await_at, waiting_at, action_at}

action_words_again : (a : Action) → HasAmounts a → action_at (action_words a) ≡ Some (a, [])
unfolding timed_at timed_acquire_at timed_await_at waiting_at action_at
action_words_again (Acquire m n Plain) lt = rw (asked_again m n [] lt) refl
action_words_again (Acquire m n Interruptible) lt = rw (asked_again m n [] lt) refl
action_words_again (TryAcquire m n) lt = rw (asked_again m n [] lt) refl
action_words_again (Release m n) lt = rw (asked_again m n [] lt) refl
action_words_again (AwaitOn c Plain) lt = rw (condition_again c [] lt) refl
action_words_again (AwaitOn c Interruptible) lt = rw (condition_again c [] lt) refl
action_words_again (Signal c) lt = rw (condition_again c [] lt) refl
action_words_again (SignalAll c) lt = rw (condition_again c [] lt) refl
action_words_again Drain lt = refl
action_words_again Trim lt = refl
action_words_again (Acquire m n (Timed ms)) lt =
    rw (
      asked_again m n (decimal ms ∷ []) lt.0,
      number_at_again 0 MOST_MILLISECONDS ms [] (omega (arith, lt.1))
          (omega arith) (omega (arith, lt.1)),
    ) refl
action_words_again (AwaitOn c (Timed ms)) lt =
    rw (
      condition_again c (decimal ms ∷ []) lt.0,
      number_at_again 0 MOST_MILLISECONDS ms [] (omega (arith, lt.1))
          (omega arith) (omega (arith, lt.1)),
    ) refl

action_plain : (a : Action) → HasAmounts a → ArePlain (action_words a)
action_plain (Acquire m n Plain) lt = (refl, (mode_plain m, (decimal_plain n (omega (arith, lt)), tt)))
action_plain (Acquire m n Interruptible) lt = (
  refl,
  (
    mode_plain m,
    (
      decimal_plain n (omega (arith, lt)),
      tt,
    ),
  ),
)
action_plain (Acquire m n (Timed ms)) lt = (
  refl,
  (mode_plain m, (decimal_plain n (omega (arith, lt.0)), (decimal_plain ms (omega (arith, lt.1)), tt))),
)
action_plain (TryAcquire m n) lt = (refl, (mode_plain m, (decimal_plain n (omega (arith, lt)), tt)))
action_plain (Release m n) lt = (refl, (mode_plain m, (decimal_plain n (omega (arith, lt)), tt)))
action_plain (AwaitOn c Plain) lt = (refl, (decimal_plain c (omega (arith, lt)), tt))
action_plain (AwaitOn c Interruptible) lt = (refl, (decimal_plain c (omega (arith, lt)), tt))
action_plain (AwaitOn c (Timed ms)) lt =
    (refl, (decimal_plain c (omega (arith, lt.0)), (decimal_plain ms (omega (arith, lt.1)), tt)))
action_plain (Signal c) lt = (refl, (decimal_plain c (omega (arith, lt)), tt))
action_plain (SignalAll c) lt = (refl, (decimal_plain c (omega (arith, lt)), tt))
action_plain Drain lt = (refl, tt)
action_plain Trim lt = (refl, tt)

cut_again : (ws : Words) (x : Action × Words) → ArePlain ws → action_at ws ≡ Some x →
    words_of (line_of ws) ≡ ws
unfolding action_at
cut_again [] x plain read = absurd cc
cut_again (w ∷ ws) x plain read = words_again w ws plain

pub action_again : (a : Action) → HasAmounts a → action_at (words_of (line_of (action_words a))) ≡ Some (
  a,
  [],
)
action_again a lt =
    let read = action_words_again a lt in
    ap action_at (cut_again (action_words a) (a, []) (action_plain a lt) read) ∙ read

-- after a name and a space
pub behind_name : (name : List ℕ) (a : Action) → line_of (name ∷ action_words a) ≡ name ++ 32
    ∷ line_of (action_words a)
behind_name name (Acquire m n Plain) = refl
behind_name name (Acquire m n Interruptible) = refl
behind_name name (Acquire m n (Timed ms)) = refl
behind_name name (TryAcquire m n) = refl
behind_name name (Release m n) = refl
behind_name name (AwaitOn c Plain) = refl
behind_name name (AwaitOn c Interruptible) = refl
behind_name name (AwaitOn c (Timed ms)) = refl
behind_name name (Signal c) = refl
behind_name name (SignalAll c) = refl
behind_name name Drain = refl
behind_name name Trim = refl
