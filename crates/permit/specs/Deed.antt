-- What is done at a parking place.
use Rattle.std.specs.Prelude.{ℕ, Bool, Option}
use Rattle.history.specs.declared.point.Point.{Point}
use Rattle.word_lock.specs.Ticket.{LockId}
use Rattle.permit.specs.declared.parking.Woke.{Woke}

-- What was done there: the clock showed a moment, a park of a seat ended, a seat was unparked by one who had
-- seen so much of the history under a lock, a seat was interrupted, or a seat's interrupt flag was cleared and had
-- been set or not.
pub data Deed : Type 0 where
  showed : (moment : ℕ) → Deed
  parked : (seat : ℕ) → (until : Option ℕ) → (interruptible : Bool) → (woke : Woke) → Deed
  unparked : (seat : ℕ) → (lock : LockId) → (seen : Point) → Deed
  interrupted : (seat : ℕ) → Deed
  took_interrupt : (seat : ℕ) → (was_set : Bool) → Deed

-- The deed was done at this place. What it means stays hidden. So only the call that does the deed can meet a
-- contract that promises it.
pub IsDone : {A : Type 0} → A → Deed → Type 0
IsDone place deed = Unit {0}

-- for the methods of a parking alone
pub done : {A : Type 0} → (place : A) → (deed : Deed) → IsDone place deed
unfolding IsDone
done place deed = tt
