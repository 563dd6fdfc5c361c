use Rattle.word_lock.specs.Ready.{IsReady}
use Rattle.word_lock.proofs.lock.tests.free_in_each.Given as goal

abbrev pub invariant-loop-number : goal.invariant-loop-number
invariant-loop-number g l = IsReady l.lock 0 l.token
