-- What the proofs of guarded cite of its own definitions, passed on from one place: slots and where a value
-- is, what guards, pools and reads do to it, and what a wait for a predicate returns. Declares nothing.
pub use Rattle.guarded.specs.declared.slot.Slot.{Slot}
pub use Rattle.guarded.specs.declared.slot.Slot.TheVariants.{Empty, Full, Lent}
pub use Rattle.guarded.specs.Asking.{awaits, CallReturns, yes_if_some}
pub use Rattle.guarded.specs.Guarding.{StillOwns, HasWaited}
pub use Rattle.guarded.specs.Pooling.{gives_back, drains, Answers}
pub use Rattle.guarded.specs.Reading.{reads, Sees}
pub use Rattle.guarded.specs.Shelved.{Lies, IsOfSemaphore}
pub use Rattle.guarded.specs.Stowed.{IsStowed, Rests, IsFull, Kept, MutexView, mutex_view}
pub use Rattle.guarded.specs.Waiting.{Owner, owner, AWait, WaitsWhile, Waited, WaitFailed, AwaitsUntil, HasCome, TimeWasUp}
