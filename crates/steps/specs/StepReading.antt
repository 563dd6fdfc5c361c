-- What the readers of steps return: what they read, and the words that are left.
use Rattle.std.specs.Prelude.{ℕ, ◌-◌, List, [], ◌∷◌, Option, None, Some, codes, bytes_eq, if◌then◌else◌}
use Rattle.history.specs.Reading.{◌>>=◌}
use Rattle.steps.specs.Below.{Words, number_at, mode_at, Mode, Step, Acquire, Try, TryFair, EntryInterrupt, Give, Look, Expire, Interrupt, Await, Signal, SignalAll, Drain}

unfoldable pub asked_at : Words → Option ((Mode × ℕ) × Words)
asked_at words = do
  m ← mode_at words
  n ← number_at 0 4294967295 m.1
  Some ((m.0, n.0), n.1)

unfoldable pub condition_at : Words → Option (ℕ × Words)
condition_at words = number_at 0 255 words

-- a step that asks for an amount in a mode, and one of a condition
abbrev pub asking : (Mode → ℕ → Step) → Words → Option (Step × Words)
asking made words = asked_at words >>= λ a. Some (made a.0.0 a.0.1, a.1)

abbrev pub on_condition : (ℕ → Step) → Words → Option (Step × Words)
on_condition made words = condition_at words >>= λ c. Some (made c.0, c.1)

-- a step that its name alone spells
unfoldable pub alone_at : List ℕ → Words → Option (Step × Words)
alone_at w ws = if bytes_eq w (codes "look") then Some (Look, ws)
    else if bytes_eq w (codes "expire") then Some (Expire, ws)
    else if bytes_eq w (codes "interrupt") then Some (Interrupt, ws)
    else if bytes_eq w (codes "drain") then Some (Drain, ws)
    else None

-- a step without an amount: one of a condition, or one that its name alone spells
unfoldable pub unasked_at : List ℕ → Words → Option (Step × Words)
unasked_at w ws = if bytes_eq w (codes "await") then on_condition Await ws
    else if bytes_eq w (codes "signal") then on_condition Signal ws
    else if bytes_eq w (codes "signalall") then on_condition SignalAll ws
    else alone_at w ws

-- a step, by its first word
unfoldable pub step_at : Words → Option (Step × Words)
step_at [] = None
step_at (w ∷ ws) = if bytes_eq w (codes "acquire") then asking Acquire ws
    else if bytes_eq w (codes "try") then asking Try ws
    else if bytes_eq w (codes "tryfair") then asking TryFair ws
    else if bytes_eq w (codes "entryinterrupt") then asking EntryInterrupt ws
    else if bytes_eq w (codes "give") then asking Give ws
    else unasked_at w ws

abbrev pub line_at : ℕ → Words → Option ((ℕ × Step) × Words)
line_at seats words = do
  seat ← number_at 0 (seats - 1) words
  step ← step_at seat.1
  Some ((seat.0, step.0), step.1)
