use Rattle.std.proofs.Common.{◌≤◌, drop}
use Rattle.history_text.specs.BaseLines.{sleeper_lines}
use Rattle.history_text.proofs.BaseFollowed.{Left}
use Rattle.history_text.proofs.base_fitting.follow_sleepers.Given as goal

abbrev pub invariant-loop-condition : goal.invariant-loop-condition
invariant-loop-condition l = record {
  left : Left l.base l.initial.so_far l.so_far (sleeper_lines 0 l.base.sleepers)
      (sleeper_lines l.condition (drop l.condition l.base.sleepers));
  inside : l.condition ≤ l.base.header.conditions;
}
