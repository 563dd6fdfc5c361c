-- What the readers of a call return: what they read, and the words that are left.
use Rattle.std.specs.Prelude.{ℕ, List, [], ◌∷◌, Option, None, Some, codes, bytes_eq, if◌then◌else◌}
use Rattle.history.specs.Reading.{Words, ◌>>=◌, number_at}
use Rattle.history.specs.declared.entry.Mode.{Mode}
use Rattle.monitor.specs.declared.how.How.{How}
use Rattle.monitor.specs.declared.how.How.TheVariants.{Plain, Interruptible, Timed}
use Rattle.script.specs.declared.action.Action.{Action}
use Rattle.script.specs.declared.action.Action.TheVariants.{Acquire, TryAcquire, Release, AwaitOn, Signal, SignalAll, Drain, Trim}
use Rattle.script.specs.declared.limits.TheConstants.{MOST_MILLISECONDS}
use Rattle.steps.specs.StepReading.{asked_at, condition_at}

-- a wait with a deadline
unfoldable pub timed_at : Words → Option (How × Words)
timed_at words = number_at 0 MOST_MILLISECONDS words >>= λ ms. Some (Timed ms.0, ms.1)

-- an acquire: a mode and an amount, and the milliseconds if it is timed
abbrev pub acquire_at : How → Words → Option (Action × Words)
acquire_at how words = asked_at words >>= λ a. Some (Acquire a.0.0 a.0.1 how, a.1)

unfoldable pub timed_acquire_at : Words → Option (Action × Words)
timed_acquire_at words = do
  a ← asked_at words
  how ← timed_at a.1
  Some (Acquire a.0.0 a.0.1 how.0, how.1)

-- a call for a mode and an amount that never waits
abbrev pub asking_at : (Mode → ℕ → Action) → Words → Option (Action × Words)
asking_at made words = asked_at words >>= λ a. Some (made a.0.0 a.0.1, a.1)

-- a call of a condition
abbrev pub on_condition_at : (ℕ → Action) → Words → Option (Action × Words)
on_condition_at made words = condition_at words >>= λ c. Some (made c.0, c.1)

unfoldable pub timed_await_at : Words → Option (Action × Words)
timed_await_at words = do
  c ← condition_at words
  how ← timed_at c.1
  Some (AwaitOn c.0 how.0, how.1)

-- a call of a condition, or of none
unfoldable pub waiting_at : List ℕ → Words → Option (Action × Words)
waiting_at w ws = if bytes_eq w (codes "await") then on_condition_at (λ c. AwaitOn c Plain) ws
    else if bytes_eq w (codes "await-interruptible") then on_condition_at (λ c. AwaitOn c Interruptible) ws
    else if bytes_eq w (codes "await-timed") then timed_await_at ws
    else if bytes_eq w (codes "signal") then on_condition_at Signal ws
    else if bytes_eq w (codes "signalall") then on_condition_at SignalAll ws
    else if bytes_eq w (codes "drain") then Some (Drain, ws)
    else if bytes_eq w (codes "trim") then Some (Trim, ws)
    else None

-- a call of an object, by its first word
unfoldable pub action_at : Words → Option (Action × Words)
action_at [] = None
action_at (w ∷ ws) = if bytes_eq w (codes "acquire") then acquire_at Plain ws
    else if bytes_eq w (codes "acquire-interruptible") then acquire_at Interruptible ws
    else if bytes_eq w (codes "acquire-timed") then timed_acquire_at ws
    else if bytes_eq w (codes "try") then asking_at TryAcquire ws
    else if bytes_eq w (codes "give") then asking_at Release ws
    else waiting_at w ws
