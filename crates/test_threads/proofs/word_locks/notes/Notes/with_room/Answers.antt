use Rattle.std.proofs.Common.{ap, refl, reverse}
use Rattle.word_lock.proofs.PointLaws.{agrees_empty}
use Rattle.test_threads.proofs.word_locks.notes.Notes.with_room.Goals as goal

pub returns : goal.returns
returns c = λ seat. agrees_empty _ seat _ refl (ap reverse c.in_ok-with_capacity.ensures.items)
