use Rattle.std.proofs.Common.{sym, ◌∙◌}
use Rattle.word_lock.proofs.Sections.{follows_taken}
use Rattle.test_threads.proofs.word_locks.tokens.add.Goals as goal

pub unlock-requires-clause-follows : goal.unlock-requires-clause-follows
unlock-requires-clause-follows g c =
    follows_taken _ c.args.token.now _ _ c.got.result.seat c.lock-held.ensures.taken.1 (c.requires.seat_is
    ∙ sym c.got.ensures) c.add-added.ensures
