use Rattle.std.proofs.Common.{refl}
use Rattle.word_lock.specs.Point.{blank_point}
use Rattle.word_lock.specs.Ticket.{first_seat}
use Rattle.word_lock.proofs.PointLaws.{follows_same}
use Rattle.word_lock.proofs.Sections.{follows_taken}
use Rattle.test_stops.proofs.locks.work.Goals as goal

pub unlock-requires-clause-follows : goal.unlock-requires-clause-follows
unlock-requires-clause-follows g c =
    follows_taken _ c.loop.token _ _ (first_seat c.loop.token.logs) c.lock-held.ensures.taken.1 refl
    (follows_same (first_seat c.loop.token.logs) blank_point)
