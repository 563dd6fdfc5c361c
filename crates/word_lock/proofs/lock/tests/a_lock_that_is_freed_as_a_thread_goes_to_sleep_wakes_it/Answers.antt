use Rattle.std.proofs.Common.{refl}
use Rattle.word_lock.proofs.PointLaws.{agrees_empty}
use Rattle.word_lock.proofs.lock.tests.a_lock_that_is_freed_as_a_thread_goes_to_sleep_wakes_it.Goals as goal

pub open-requires-clause-empty : goal.open-requires-clause-empty
open-requires-clause-empty g c = λ seat. agrees_empty _ seat _ refl refl
