-- What the hooks of any object represent: the same as the hooks of its kind.
use Rattle.std.specs.Prelude.{◌≡◌, ℕ}
use Rattle.history.specs.declared.header.Object.{Object}
use Rattle.history.specs.declared.header.Object.TheVariants as object
use Rattle.history.specs.Counts.{Counts}
use Rattle.frame.specs.Hooks.{AreAlike, opening_counts}
use Rattle.any_object.specs.declared.any_hooks.AnyHooks.{AnyHooks}
use Rattle.any_object.specs.declared.any_hooks.AnyHooks.TheVariants.{Lock, ReadWrite, Semaphore, Latch}
use Rattle.counting.specs.Latch as latch
use Rattle.counting.specs.Semaphore as semaphore
use Rattle.read_write.specs.Laws as rw_laws
use Rattle.read_write.specs.State as rw
use Rattle.reentrant.specs.Laws as lock_laws
use Rattle.reentrant.specs.Lock as lock

abbrev pub Matches : AnyHooks → Counts → Type 0
Matches (Lock s) k = lock.Matches s k
Matches (ReadWrite s) k = rw.Matches s k
Matches (Semaphore s) k = semaphore.Matches s k
Matches (Latch s) k = latch.Matches s k

abbrev pub object_of : AnyHooks → Object
object_of (Lock s) = lock.lock_of s
object_of (ReadWrite s) = rw.rw_of s
object_of (Semaphore s) = semaphore.semaphore_of s
object_of (Latch s) = latch.latch_of s

abbrev pub IsOpened : AnyHooks → ℕ → Type 0
IsOpened (Lock s) seats = lock.IsOpened s seats
IsOpened (ReadWrite s) seats = rw.IsOpened s seats
IsOpened (Semaphore s) seats = semaphore.IsOpened s seats
IsOpened (Latch s) seats = latch.IsOpened s seats

-- the objects whose hooks have a table of the seats
abbrev pub IsReadWrite : Object → Type 0
IsReadWrite (object.ReadWrite policy) = Unit {0}
IsReadWrite _ = ⊥

pub opens_so : (s : AnyHooks) (seats : ℕ) → IsOpened s seats → Matches s (opening_counts (object_of s) seats)
opens_so (Lock s) seats opened = lock_laws.opens_so s seats opened
opens_so (ReadWrite s) seats opened = rw_laws.opens_so s seats opened
opens_so (Semaphore s) seats opened = semaphore.opens_so s seats opened
opens_so (Latch s) seats opened = latch.opens_so s seats opened

pub same_object : (s : AnyHooks) (k : Counts) → Matches s k → k.object ≡ object_of s
same_object (Lock s) k h = lock_laws.same_policy s k h
same_object (ReadWrite s) k h = rw_laws.same_policy s k h
same_object (Semaphore s) k h = semaphore.same_semaphore s k h
same_object (Latch s) k h = latch.same_latch s k h

pub alike_so : (s : AnyHooks) (k l : Counts) → AreAlike k l → Matches s k → Matches s l
alike_so (Lock s) k l same h = lock_laws.alike_so s k l same h
alike_so (ReadWrite s) k l same h = rw_laws.alike_so s k l same h
alike_so (Semaphore s) k l same h = semaphore.alike_so s k l same h
alike_so (Latch s) k l same h = latch.alike_so s k l same h

pub some_counts : (s : AnyHooks) → (k : Counts) × Matches s k
some_counts (Lock s) = lock_laws.some_counts s
some_counts (ReadWrite s) = rw_laws.some_counts s
some_counts (Semaphore s) = semaphore.some_counts s
some_counts (Latch s) = latch.some_counts s
