-- What readers of a lock that guards a value ask of its monitor.
use Rattle.std.specs.Prelude.{◌≡◌, ◌<◌, ℕ, Bool, true, Result, Ok, Some}
use Rattle.std.specs.Borrow.{MutBor}
use Rattle.guarded.specs.Below.{Entry, S, counts, Fault, Give, CanCall, Called, start_at, holds_of, IsLook, IsSame, Shown, IsEntered, WhenFull, Adds, Takes, holds, with_yes, done_of, Deed}
use Rattle.guarded.specs.declared.read_guard.ReadGuard.{ReadGuard}
use Rattle.guarded.specs.declared.slot.Slot.{Slot}
use Rattle.guarded.specs.declared.slot.Slot.TheVariants.{Full}
use Rattle.guarded.specs.Asking.{Call, CallReturns}
use Rattle.guarded.specs.Stowed.{Rests}

-- how many read holds the pass's seat has, by its own entries alone
abbrev pub reads : Shown → ℕ
reads p = holds_of p S

-- what a call for a read hold returns, and the read holds that it adds
pub record AsksToRead (w : WhenFull) (call : Call) (old : Shown) (returned : Result Bool Fault) (new : Shown) :
    Type 0 where
  pub called : Called old new
  pub replied : CallReturns w call old new returned
  pub adds : Adds S old returned new

-- A guard's pass is one of its lock's that reads and doesn't write, and there is a place to park for each seat.
pub record Reads {T P R I S : Type 0} (seats : ℕ) (guard : ReadGuard T P R I S) : Type 0 where
  pub can : CanCall guard.lock.now.lock seats guard.pass.now
  pub some : 0 < reads guard.pass.now
  pub free : holds guard.pass.now ≡ 0

-- The value lay under the lock when the pass looked. So nobody wrote to it. It meets the invariant.
abbrev pub Saw : {T : Type 0} → (T → Type 0) → Shown → T → Type 0
Saw invariant p value = Rests (Some value) (counts (start_at p.seen) p.seen.entries) × invariant value

-- A call got a read hold, and then the pass looked at the value, which its guard lends.
pub record HasRead {T P R I : Type 0} (seats : P → ℕ) (invariant : T → Type 0) (w : WhenFull) (call : Call)
    (old : MutBor Shown) (guard : ReadGuard T P R I T) : Type 0 where
  pub same_reference : guard.pass.ghost_name ≡ old.ghost_name
  pub same : IsSame old.now guard.pass.now
  pub between : Shown
  pub asked : AsksToRead w call old.now (Ok true) between
  pub looked : IsLook between guard.pass.now
  pub reads : Reads (seats guard.parking.now) guard
  pub saw : Saw invariant guard.pass.now guard.share

-- What a call of a guard leaves: it is of the same lock and places to park, reads still, and lends the same value.
pub record StillReads {T P R I S : Type 0} (seats : ℕ) (old new : ReadGuard T P R I S) : Type 0 where
  pub same_reference : new.pass.ghost_name ≡ old.pass.ghost_name
  pub same_lock : new.lock.now ≡ old.lock.now
  pub same_parking : new.parking.now ≡ old.parking.now
  pub reads : Reads seats new
  pub value : new.share ≡ old.share

-- A read hold was given back; or the step was refused, and the pass has it still. This is told of it.
pub record EndsReading (did : Deed → Type 0) (old : Shown) (told : Result (Unit {0}) Fault) (new : Shown) :
    Type 0 where
  pub called : Called old new
  pub given : (reply : Result Entry Fault) × IsEntered did old (Give S 1) reply new × (told ≡ done_of reply)
  pub takes : Takes S old (with_yes told) new

-- an answer was given at the value of a slot
abbrev pub Sees : {T I A : Type 0} → (T → A → Type 0) → Slot T I → A → Type 0
Sees {T} returns slot answer = (value : T) × (slot ≡ Full value) × returns value answer
