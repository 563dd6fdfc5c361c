-- What the calls of a lock ask of its monitor, and what they return.
use Rattle.std.specs.Prelude.{◌≡◌, ℕ, Bool, true, false, Option, Some, None, Result, Ok, Err, List, All}
use Rattle.guarded.specs.Below.{Entry, Mode, Fault, Object, header_of, blank, opening_passes, holds, Step, Try, IsCallIn, IsEnteredIn, signal_step, Shown, IsEntered, How, IsAcquire, InRoom, AwaitOn, WhenFull, done_of, whether_of, Deed}
use Rattle.guarded.specs.Stowed.{MutexView}

-- a call's reply, with the pass before and after it, by what the lock does if its history is full
abbrev pub Call : Type 1
Call = WhenFull → Shown → Result Entry Fault → Shown → Type 0

-- the calls of the monitor, for a hold in a mode
abbrev pub acquires : (Deed → Type 0) → Mode → How → Call
acquires did m how w old reply new = InRoom w (λ o a n. IsAcquire did o m 1 how a n) old reply new

abbrev pub tries : (Deed → Type 0) → Mode → Call
tries did m w old reply new = IsEnteredIn w did old (Try m 1) reply new

abbrev pub awaits : (Deed → Type 0) → ℕ → How → Call
awaits did condition how w old reply new = IsCallIn w did old (AwaitOn condition) how reply new

-- to one sleeper, or to all
abbrev pub signals : (Deed → Type 0) → Bool → ℕ → Call
signals did all condition w old reply new = IsEnteredIn w did old (signal_step all condition) reply new

-- the call had a reply, and this is what is returned for it
abbrev pub CallReturns : WhenFull → Call → Shown → Shown → Result Bool Fault → Type 0
CallReturns w call old new returned =
    (reply : Result Entry Fault) × call w old reply new × (returned ≡ whether_of reply)

-- the same of a call that returns no yes or no
abbrev pub CallReturnsDone : WhenFull → Call → Shown → Shown → Result (Unit {0}) Fault → Type 0
CallReturnsDone w call old new done =
    (reply : Result Entry Fault) × call w old reply new × (done ≡ done_of reply)

-- the step was recorded
abbrev pub IsRecorded : (Deed → Type 0) → Shown → Step → Shown → Type 0
IsRecorded did old step new = (e : Entry) × IsEntered did old step (Ok e) new

-- whether there is something
abbrev pub is_there : {T : Type 0} → Option T → Bool
is_there None = false
is_there (Some x) = true

-- whether the value is there, of a call that returns it if it got it
abbrev pub yes_if_some : {T : Type 0} → Result (Option T) Fault → Result Bool Fault
yes_if_some (Ok value) = Ok (is_there value)
yes_if_some (Err f) = Err f

-- What an opening returns: a lock or pool of this kind, and a pass for each seat, in order, none of which holds.
pub record Opened (object : Object) (w : WhenFull) (seats conditions cap : ℕ) (m : MutexView)
    (made : List Shown) : Type 0 where
  pub header : m.lock.header ≡ header_of object seats conditions cap
  pub when_full : m.when_full ≡ w
  pub passes : made ≡ opening_passes m.lock (blank m.lock.header) 0 seats
  pub own : All (λ p. p.lock ≡ m.lock) made
  pub free : All (λ p. holds p ≡ 0) made
