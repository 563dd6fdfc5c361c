use Rattle.std.proofs.Common.{◌≤◌, All, vec_capacity}
use Rattle.test_support.proofs.memory.take.Given as goal

-- each block that is taken is large enough
abbrev pub invariant-loop : goal.invariant-loop
invariant-loop l =
    record {
      blocks : All (λ block. l.least ≤ vec_capacity block) l.fn.blocks.items →
          All (λ block. l.least ≤ vec_capacity block) l.blocks.items;
      size : l.least ≤ l.size;
    }
