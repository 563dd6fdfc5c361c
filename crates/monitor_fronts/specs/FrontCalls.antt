-- A call of a front type on a history that may be full: one without room for the call's first entry and for
-- all that is owed.
--
-- With Refuse it is the call of the monitor. If the history is full, the reply is HistoryFull, and nothing
-- was recorded.
--
-- With Trim the call is made anew after a trim, as often as it finds the history full. It gives up if a history without
-- entries has no room: the reply is HistoryFull. It gives up too if more entries would be folded than there may be: the
-- reply is TrimFull. Then nothing was recorded.
use Rattle.std.specs.Prelude.{◌≡◌, ◌-◌, ◌^◌, min, ℕ, Result}
use Rattle.monitor_fronts.specs.Below.{Entry, Mode, Fault, Step, Deed, showed, Shown, How, Timed}
use Rattle.monitor_fronts.specs.Room.{IsCallIn, IsEnteredIn}
use Rattle.monitor_fronts.specs.declared.room.WhenFull.{WhenFull}
use Rattle.monitor.specs.declared.machine.Request.TheVariants as request

-- an acquire of `n` in a mode, which waits as `how` says
abbrev pub Acquires : WhenFull → (Deed → Type 0) → Mode → ℕ → How → Shown → Shown →
    Result Entry Fault → Type 0
Acquires w did m n how old new reply = IsCallIn w did old (request.Acquire m n) how reply new

-- an await on a condition
abbrev pub Awaits : WhenFull → (Deed → Type 0) → ℕ → How → Shown → Shown → Result Entry Fault → Type 0
Awaits w did condition how old new reply = IsCallIn w did old (request.AwaitOn condition) how reply new

-- one step that doesn't wait
abbrev pub Steps : WhenFull → (Deed → Type 0) → Step → Shown → Shown → Result Entry Fault → Type 0
Steps w did step old new reply = IsEnteredIn w did old step reply new

-- So many milliseconds were left until a moment when the clock showed another: none if that one was not
-- before it, and at most as many as a call may have.
abbrev pub AreLeft : (Deed → Type 0) → ℕ → ℕ → Type 0
AreLeft did end ms = (moment : ℕ) × did (showed moment) × (ms ≡ min (end - moment) (2 ^ 32 - 1))

-- a timed call that had the milliseconds which were left until a moment
abbrev pub LastsUntil : (Deed → Type 0) → ℕ → (How → Type 0) → Type 0
LastsUntil did end call = (ms : ℕ) × AreLeft did end ms × call (Timed ms)
