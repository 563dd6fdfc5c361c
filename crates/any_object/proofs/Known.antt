-- What hooks of a known kind stand for.
use Rattle.std.proofs.Common.{◌≡◌, subst}
use Rattle.history.specs.Counts.{Counts}
use Rattle.any_object.specs.declared.any_hooks.AnyHooks.{AnyHooks}
use Rattle.any_object.specs.declared.any_hooks.AnyHooks.TheVariants.{Lock, ReadWrite, Semaphore, Latch}
use Rattle.any_object.specs.AnyObject.{Matches}
use Rattle.counting.specs.declared.latch.LatchHooks.{LatchHooks}
use Rattle.counting.specs.declared.semaphore.SemaphoreHooks.{SemaphoreHooks}
use Rattle.counting.specs.Latch as latch
use Rattle.counting.specs.Semaphore as semaphore
use Rattle.read_write.specs.declared.hooks.RwHooks.{RwHooks}
use Rattle.read_write.specs.State as rw
use Rattle.reentrant.specs.declared.lock.LockHooks.{LockHooks}
use Rattle.reentrant.specs.Lock as lock

pub of_lock : (s : AnyHooks) (h : LockHooks) (k : Counts) → s ≡ Lock h → Matches s k → lock.Matches h k
of_lock s h k is stands = subst (λ (z : AnyHooks). Matches z k) is stands

pub of_rw : (s : AnyHooks) (h : RwHooks) (k : Counts) → s ≡ ReadWrite h → Matches s k → rw.Matches h k
of_rw s h k is stands = subst (λ (z : AnyHooks). Matches z k) is stands

pub of_semaphore : (s : AnyHooks) (h : SemaphoreHooks) (k : Counts) → s ≡ Semaphore h → Matches s k →
    semaphore.Matches h k
of_semaphore s h k is stands = subst (λ (z : AnyHooks). Matches z k) is stands

pub of_latch : (s : AnyHooks) (h : LatchHooks) (k : Counts) → s ≡ Latch h → Matches s k → latch.Matches h k
of_latch s h k is stands = subst (λ (z : AnyHooks). Matches z k) is stands
