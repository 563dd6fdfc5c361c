-- Waits that a predicate ends.
use Rattle.std.specs.Prelude.{◌≡◌, ◌≤◌, ◌<◌, ℕ, suc, zero, Bool, true, Result, Ok, Err}
use Rattle.guarded.specs.Below.{AreLeft, Fault, moment_after, Shown, Timed, WhenFull, Deed, showed}
use Rattle.guarded.specs.declared.slot.Slot.{Slot}
use Rattle.guarded.specs.Asking.{CallReturns, awaits}
use Rattle.guarded.specs.Reading.{Sees}

-- what an owner has: its pass, and the value
pub record Owner (T I : Type 0) : Type 0 where
  pub pass : Shown
  pub slot : Slot T I

abbrev pub owner : {T I : Type 0} → Shown → Slot T I → Owner T I
owner pass slot = record { pass = pass; slot = slot }

-- a wait of an owner, and what it returned
abbrev pub AWait : Type 0 → Type 0 → Type 1
AWait T I = Owner T I → Owner T I → Result Bool Fault → Type 0

-- a wait by such a call, which began while the predicate was true of the value
pub record WaitsWhile {T I : Type 0} (says : T → Bool → Type 0) (call : Shown → Shown → Result Bool Fault → Type 0)
    (old new : Owner T I) (returned : Result Bool Fault) : Type 0 where
  pub sees : Sees says old.slot true
  pub waits : call old.pass new.pass returned

-- so many waits one after another, none of which failed
abbrev pub WaitedTimes : {T I : Type 0} → AWait T I → ℕ → Owner T I → Owner T I → Type 0
WaitedTimes wait zero old new = new ≡ old
WaitedTimes {T} {I} wait (suc count) old new =
    (front : Owner T I) × (signalled : Bool) × WaitedTimes wait count old front × wait front new (Ok signalled)

-- waits one after another, or none; none of them failed
abbrev pub Waited : {T I : Type 0} → AWait T I → Owner T I → Owner T I → Type 0
Waited wait old new = (count : ℕ) × WaitedTimes wait count old new

-- after such waits, one failed
abbrev pub WaitFailed : {T I : Type 0} → AWait T I → Owner T I → Owner T I → Fault → Type 0
WaitFailed {T} {I} wait old new fault = (front : Owner T I) × Waited wait old front × wait front new (Err fault)

-- an await that an interrupt ends, with the milliseconds that were left until a moment, of which there were some
abbrev pub AwaitsUntil : (Deed → Type 0) → WhenFull → ℕ → ℕ → Shown → Shown → Result Bool Fault → Type 0
AwaitsUntil did w condition end old new returned =
    (ms : ℕ) × AreLeft did end ms × (0 < ms) × CallReturns w (awaits did condition (Timed ms)) old new returned

-- the clock showed this moment, or a later one
abbrev pub HasCome : (Deed → Type 0) → ℕ → Type 0
HasCome did end = (ended : ℕ) × did (showed ended) × (end ≤ ended)

-- the clock showed a moment, and then one that comes so many milliseconds after it
abbrev pub TimeWasUp : (Deed → Type 0) → ℕ → Type 0
TimeWasUp did ms = (begun : ℕ) × did (showed begun) × HasCome did (moment_after begun ms)
