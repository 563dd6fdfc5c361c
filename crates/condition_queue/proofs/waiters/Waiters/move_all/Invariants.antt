use Rattle.condition_queue.specs.Moves.{Moves}
use Rattle.condition_queue.proofs.waiters.Waiters.move_all.Given as goal

abbrev pub invariant-loop : goal.invariant-loop
invariant-loop l = Moves l.c l.counter l.fn.self l.self l.fn.queue l.queue
