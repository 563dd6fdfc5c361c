use Rattle.word_lock.proofs.PointLaws.{follows_same}
use Rattle.word_lock.proofs.Sections.{follows_taken}
use Rattle.test_threads.proofs.memory.tie_meanwhile.Goals as goal

pub unlock-requires-clause-follows : goal.unlock-requires-clause-follows
unlock-requires-clause-follows g c =
    follows_taken _ c.args.holder _ _ 2 c.lock-held.ensures.taken.1 c.requires.holder.seat_is
    (follows_same 2 _)
