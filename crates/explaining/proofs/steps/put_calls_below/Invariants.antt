use Rattle.std.proofs.Common.{◌≡◌, ◌++◌}
use Rattle.explaining.specs.Ways.{calls_below}
use Rattle.explaining.proofs.steps.put_calls_below.Given as goal

abbrev pub invariant-loop-condition : goal.invariant-loop-condition
invariant-loop-condition l = l.steps.items ≡ l.initial.steps.items ++ calls_below l.condition
