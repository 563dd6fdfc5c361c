-- What is known of a pass that has the lock, or has it not.
use Rattle.std.specs.Prelude.{◌≡◌, ◌<◌, ◌≤◌, ℕ, Bool, true, false, Result, Ok, Err}
use Rattle.std.specs.Borrow.{MutBor}
use Rattle.guarded.specs.Below.{Deed, Fault, Give, X, CanCall, Called, Shown, IsSame, WhenFull, holds}
use Rattle.guarded.specs.declared.try_lock.TryLockFault.{TryLockFault}
use Rattle.guarded.specs.declared.try_lock.TryLockFault.TheVariants.{Missed, Failed}
use Rattle.guarded.specs.Asking.{Call, CallReturns, CallReturnsDone, IsRecorded}
use Rattle.guarded.specs.declared.guard.Guard.{Guard}
use Rattle.guarded.specs.declared.slot.Slot.{Slot}
use Rattle.guarded.specs.Stowed.{IsFull, Kept, MutexView}

-- A pass of the lock that doesn't hold it, with a place to park for each seat.
pub record CanLock (m : MutexView) (seats : ℕ) (p : Shown) : Type 0 where
  pub can : CanCall m.lock seats p
  pub free : holds p ≡ 0

-- A pass of the lock that holds it, with the value, and with a place to park for each seat.
pub record Guards {T I : Type 0} (m : MutexView) (seats : ℕ) (p : Shown) (value : Slot T I) : Type 0 where
  pub lock : p.lock ≡ m.lock
  pub places : m.lock.header.seats ≤ seats
  pub some : 0 < holds p
  pub there : IsFull value

-- the same of a guard
abbrev pub Owns : {T P R I H : Type 0} → ℕ → Guard T P R I H → Type 0
Owns seats guard = Guards guard.lock.now seats guard.pass.now guard.slot

-- What each call of a guard leaves: it is of the same seat, lock and places to park, and still has the value.
pub record StillOwns {T P R I H : Type 0} (seats : ℕ) (old new : Guard T P R I H) : Type 0 where
  pub same_reference : new.pass.ghost_name ≡ old.pass.ghost_name
  pub same : IsSame old.pass.now new.pass.now
  pub same_lock : new.lock.now ≡ old.lock.now
  pub same_parking : new.parking.now ≡ old.parking.now
  pub guards : Owns seats new

-- What each wait leaves too: as many holds, and a value that meets the invariant.
pub record HasWaited {T P R I H : Type 0} (seats : ℕ) (invariant : T → Type 0) (old new : Guard T P R I H) :
    Type 0 where
  pub stays : StillOwns seats old new
  pub keeps : holds new.pass.now ≡ holds old.pass.now
  pub kept : Kept invariant new.slot

-- the last hold was given back, and the value with it
pub record HasUnlocked (did : Deed → Type 0) (old new : Shown) : Type 0 where
  pub called : Called old new
  pub recorded : IsRecorded did old (Give X 1) new
  pub free : holds new ≡ 0

-- a call of a guard, and what it returned
abbrev pub GuardReturns : {T P R I H : Type 0} → Call → Guard T P R I H → Guard T P R I H → Result Bool Fault → Type 0
GuardReturns call old new returned = CallReturns old.lock.now.when_full call old.pass.now new.pass.now returned

abbrev pub GuardReturnsDone :
    {T P R I H : Type 0} → Call → Guard T P R I H → Guard T P R I H → Result (Unit {0}) Fault → Type 0
GuardReturnsDone call old new done = CallReturnsDone old.lock.now.when_full call old.pass.now new.pass.now done

-- a call that got the lock, and the value with it
pub record Locked {T I : Type 0} (w : WhenFull) (call : Call) (old : Shown) (value : Slot T I) (new : Shown) :
    Type 0 where
  pub called : Called old new
  pub replied : CallReturns w call old new (Ok true)
  pub once : holds new ≡ 1
  pub there : IsFull value

-- the same of a guard, whose value meets the invariant
pub record HasLocked {T P R I H : Type 0} (seats : P → ℕ) (invariant : T → Type 0) (w : WhenFull) (call : Call)
    (old : MutBor Shown) (guard : Guard T P R I H) : Type 0 where
  pub same_reference : guard.pass.ghost_name ≡ old.ghost_name
  pub guards : Owns (seats guard.parking.now) guard
  pub locked : Locked w call old.now guard.slot guard.pass.now
  pub kept : Kept invariant guard.slot

-- a call that didn't get it, and what is returned
pub record NotLocked (w : WhenFull) (call : Call) (old : Shown) (returned : Result Bool Fault) (new : Shown) :
    Type 0 where
  pub called : Called old new
  pub replied : CallReturns w call old new returned
  pub free : holds new ≡ 0

abbrev pub missed_as_no : TryLockFault → Result Bool Fault
missed_as_no Missed = Ok false
missed_as_no (Failed f) = Err f

abbrev pub yes_unless_missed : {A : Type 0} → Result A TryLockFault → Result Bool Fault
yes_unless_missed (Ok guard) = Ok true
yes_unless_missed (Err f) = missed_as_no f
