use Rattle.std.proofs.Common.{◌≡◌, ◌+◌}
use Rattle.test_support.proofs.memory.Memory.take_pieces.Given as goal

abbrev pub invariant-loop-taken : goal.invariant-loop-taken
invariant-loop-taken l = l.self ≡ l.fn.self + l.taken
