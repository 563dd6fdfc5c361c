use Rattle.word_lock.specs.Ready.{IsReady}
use Rattle.test_threads.proofs.word_locks.tokens.add_all.Given as goal

abbrev pub invariant-loop : goal.invariant-loop
invariant-loop g l = IsReady l.lock l.seat l.token
