use Rattle.std.proofs.Common.{vec_len}
use Rattle.std.specs.List.{All}
use Rattle.word_lock.specs.Ready.{IsReady}
use Rattle.word_lock.specs.Ticket.{first_seat}
use Rattle.test_stops.proofs.locks.make_workers.Given as goal

abbrev pub invariant-loop-token : goal.invariant-loop-token
invariant-loop-token l = All (λ t. IsReady l.lock (first_seat t.logs) t) l.tokens.items

abbrev pub decreases-loop-token : goal.decreases-loop-token
decreases-loop-token l = vec_len l.tokens
