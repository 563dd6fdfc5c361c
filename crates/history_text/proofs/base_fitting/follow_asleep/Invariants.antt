use Rattle.std.proofs.Common.{◌≤◌, length, drop, map}
use Rattle.history_text.specs.declared.base_line.BaseLine.TheVariants.{Sleeps}
use Rattle.history_text.proofs.BaseFollowed.{Left}
use Rattle.history_text.proofs.base_fitting.follow_asleep.Given as goal

abbrev pub invariant-loop-sleeper : goal.invariant-loop-sleeper
invariant-loop-sleeper l = record {
  left : Left l.base l.initial.so_far l.so_far (map (Sleeps l.condition) l.list)
      (map (Sleeps l.condition) (drop l.sleeper-index l.list));
  inside : l.sleeper-index ≤ length l.list;
}
