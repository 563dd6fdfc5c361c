use Rattle.std.specs.Int.{w32}
use Rattle.std.proofs.lemmas.Int.{to_z-of_z}
use Rattle.history_text.proofs.base_so_far.BaseSoFar.lets_hold.Goals as goal

pub returns-in-Semaphore : goal.returns-in-Semaphore
returns-in-Semaphore c =
    let fits = (rw c.in-Semaphore.is at c.requires.opening).1 in
    rw c.in-Semaphore.is (rw (to_z-of_z w32 c.in-Semaphore.permits fits)
    at (c.lets_take.ensures c.in-Semaphore.field-0))
