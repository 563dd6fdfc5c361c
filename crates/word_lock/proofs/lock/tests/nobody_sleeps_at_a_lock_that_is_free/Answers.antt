use Rattle.std.proofs.Common.{refl}
use Rattle.word_lock.proofs.PointLaws.{agrees_empty}
use Rattle.word_lock.proofs.lock.tests.nobody_sleeps_at_a_lock_that_is_free.Goals as goal

pub open-requires-clause-empty : goal.open-requires-clause-empty
open-requires-clause-empty g c = λ seat. agrees_empty _ seat _ refl refl
