use Rattle.std.proofs.Common.{◌≡◌, ◌-◌}
use Rattle.test_support.proofs.memory.Memory.give_pieces.Given as goal

abbrev pub invariant-loop : goal.invariant-loop
invariant-loop l = l.self ≡ l.fn.self - l.counter
