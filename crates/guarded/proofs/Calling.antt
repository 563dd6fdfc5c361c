-- What the calls of a lock leave of a pass's holds.
use Rattle.std.proofs.Common.{◌≡◌, ℕ, true, List, Result, Ok, Err, IsOk, sym, ap, ◌∙◌, subst}
use Rattle.std.specs.List.{All}
use Rattle.guarded.specs.Below.{Entry, Fault, is_lock, LockId, blank, opening_passes, Shown, WhenFull, holds}
use Rattle.monitor_fronts.proofs.Counting.{none_yet, of_lock}
use Rattle.guarded.specs.declared.guard.Guard.{Guard}
use Rattle.guarded.specs.Guarding.{HasWaited}
use Rattle.guarded.specs.Stowed.{IsOfLock, MutexView, mutex_view}

-- a pass of such a lock is of a lock
pub is_of_lock : {monitor : LockId} {when_full : WhenFull} {m : MutexView} {l : LockId} →
    mutex_view monitor when_full ≡ m → IsOfLock monitor → l ≡ m.lock → is_lock l.header.object ≡ true
is_of_lock {monitor} {when_full} {m} {l} view lock of =
    of_lock of (ap (λ (v : MutexView). is_lock v.lock.header.object) (sym view) ∙ lock)

pub never_fails : (r : Result Entry Fault) (f : Fault) → IsOk r → r ≡ Err f → ⊥
never_fails (Ok e) f ok q = cc
never_fails (Err x) f ok q = cc

-- the passes of an opening hold nothing
pub none_hold : (lock : LockId) (seats : ℕ) (made : List Shown) →
    made ≡ opening_passes lock (blank lock.header) 0 seats → All (λ (s : Shown). holds s ≡ 0) made
none_hold lock seats made is =
    subst (λ (l : List Shown). All (λ (s : Shown). holds s ≡ 0) l) (sym is)
    (none_yet lock (blank lock.header) 0 seats)

-- what one wait of a guard leaves after another
pub waits_on : {T P R I H : Type 0} {inv : T → Type 0} {m n : ℕ} {x y z : Guard T P R I H} →
    HasWaited m inv x y → HasWaited n inv y z → HasWaited n inv x z
waits_on a b =
    let s = a.stays in let t = b.stays in
    record {
      stays = record {
        same_reference = t.same_reference ∙ s.same_reference;
        same = record { lock = t.same.lock ∙ s.same.lock; seat = t.same.seat ∙ s.same.seat };
        same_lock = t.same_lock ∙ s.same_lock;
        same_parking = t.same_parking ∙ s.same_parking;
        guards = t.guards;
      };
      keeps = b.keeps ∙ a.keeps;
      kept = b.kept;
    }
