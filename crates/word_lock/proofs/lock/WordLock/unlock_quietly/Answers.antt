use Rattle.std.proofs.Common.{rules, arith}
use Rattle.std.proofs.lemmas.Grind.{common_steps}
use Rattle.word_lock.proofs.lock.WordLock.unlock_quietly.Goals as goal

pub put_value-requires-clause-fact : goal.put_value-requires-clause-fact
put_value-requires-clause-fact g c = search rules

pub of-requires : goal.of-requires
of-requires g c = search rules

pub returns : goal.returns
returns g c = grind (arith, common_steps)
