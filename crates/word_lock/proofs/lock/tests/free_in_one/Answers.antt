use Rattle.word_lock.proofs.PointLaws.{follows_same}
use Rattle.word_lock.proofs.Sections.{follows_taken}
use Rattle.word_lock.proofs.lock.tests.free_in_one.Goals as goal

pub unlock-requires-clause-follows : goal.unlock-requires-clause-follows
unlock-requires-clause-follows g c =
    follows_taken _ c.args.token.now _ _ 0 c.lock-held.ensures.taken.1 c.requires.seat_is
    (follows_same 0 _)
