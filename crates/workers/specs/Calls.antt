-- How the calls of a worker change its passes.
use Rattle.std.specs.Prelude.{◌≡◌, ℕ, zero, suc, ◌+◌, List, [], ◌∷◌, ◌++◌, Option, None, Some, Ok, Err, length, reverse, slice_get, slice_set}
use Rattle.workers.specs.Below.{Fault, IsAcquire, IsAwait, Shown, IsSound, IsEntered, IsSame, IsTrim, IsDone, interrupted, Action, Acquire, TryAcquire, Release, AwaitOn, Signal, SignalAll, Drain, Trim, Call, On, Interrupt}
use Rattle.history.specs.declared.step.Step.TheVariants as step
use Rattle.workers.specs.declared.reply.Reply.{Reply}
use Rattle.workers.specs.declared.reply.Reply.TheVariants.{Entered, Trimmed}
use Rattle.workers.specs.declared.unrecorded.Unrecorded.{Unrecorded}

-- a call of an object, as the call of its monitor, with a parking of this number of seats
abbrev pub IsActed : ℕ → Action → Shown → Reply → Shown → Type 0
IsActed seats (Acquire m n how) old (Entered r) new = IsAcquire (IsDone seats) old m n how r new
IsActed seats (TryAcquire m n) old (Entered r) new = IsEntered (IsDone seats) old (step.Try m n) r new
IsActed seats (Release m n) old (Entered r) new = IsEntered (IsDone seats) old (step.Give m n) r new
IsActed seats (AwaitOn c how) old (Entered r) new = IsAwait (IsDone seats) old c how r new
IsActed seats (Signal c) old (Entered r) new = IsEntered (IsDone seats) old (step.Signal c) r new
IsActed seats (SignalAll c) old (Entered r) new = IsEntered (IsDone seats) old (step.SignalAll c) r new
IsActed seats Drain old (Entered r) new = IsEntered (IsDone seats) old step.Drain r new
IsActed seats Trim old (Trimmed r) new = IsTrim old r new
IsActed seats _ old _ new = ⊥

-- what a call returns that no history records: a fault alone
abbrev pub fault_of : Reply → Option Fault
fault_of (Entered (Ok e)) = None
fault_of (Entered (Err f)) = Some f
fault_of (Trimmed (Ok count)) = None
fault_of (Trimmed (Err f)) = Some f

-- the answer to a thread's call of this number, if no history records it
abbrev pub unrecorded_by : ℕ → ℕ → Call → Option Fault → List Unrecorded
unrecorded_by thread number call None = []
unrecorded_by thread number call (Some f) =
    record { thread = thread; number = number; call = call; fault = f } ∷ []

-- A call of the object at a place: it changed the pass there as the monitor's call does, and no other pass.
-- The pass stays of its monitor and its seat. What it shows is sound: its share is the number of its calls
-- that ended.
pub record ActsOn (place : ℕ) (action : Action) (old : List Shown) (fault : Option Fault) (new : List Shown) :
    Type 0 where
  pub before : Shown
  pub there : slice_get old place ≡ Some before
  pub reply : Reply
  pub after : Shown
  pub seats : ℕ  -- of a place to park: that of another call may have another number
  pub acted : IsActed seats action before reply after
  pub same : IsSame before after
  pub shows : IsSound after
  pub others : new ≡ slice_set old place after
  pub unrecorded : fault ≡ fault_of reply

-- how a call changes the passes, and what it returns that no history records
abbrev pub IsCalled : Call → List Shown → Option Fault → List Shown → Type 0
IsCalled (On place action) old fault new = ActsOn place action old fault new
IsCalled (Interrupt thread) old fault new =
    (new ≡ old) × (fault ≡ None) × ((seats : ℕ) × IsDone seats (interrupted thread))

-- how calls of a thread change its passes, and the answers to them that no history records; the calls are numbered
-- from `first` on, and the list has the last one first
abbrev pub Made : ℕ → ℕ → List Call → List Shown → List Unrecorded → List Shown → Type 0
Made thread first [] old answers new = (new ≡ old) × (answers ≡ [])
Made thread first (call ∷ calls) old answers new =
    (between : List Shown) × (before : List Unrecorded) × (fault : Option Fault)
    × Made thread first calls old before between × IsCalled call between fault new
    × (answers ≡ before ++ unrecorded_by thread (first + length calls) call fault)

-- the calls of n rounds, the last first
abbrev pub rounds : ℕ → List Call → List Call
rounds zero calls = []
rounds (suc n) calls = reverse calls ++ rounds n calls
