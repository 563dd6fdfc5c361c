use Rattle.std.proofs.Common.{◌≡◌, vec_len}
use Rattle.test_support.proofs.memory.Memory.take_all.Given as goal

-- as many pieces as there were turns
abbrev pub invariant-loop : goal.invariant-loop
invariant-loop l = vec_len l.pieces ≡ l.counter
