use Rattle.std.proofs.Common.{◌≡◌, length}
use Rattle.example_guards.proofs.connection_pool.service.connect.Given as goal

abbrev pub invariant-loop-number : goal.invariant-loop-number
invariant-loop-number l = length l.connections ≡ l.number
