use Rattle.std.proofs.Common.{◌≤◌, length, drop, map}
use Rattle.history_text.specs.declared.base_line.BaseLine.TheVariants.{Stands}
use Rattle.history_text.proofs.BaseFollowed.{Left}
use Rattle.history_text.proofs.base_fitting.follow_standings.Given as goal

abbrev pub invariant-loop-standing : goal.invariant-loop-standing
invariant-loop-standing l = record {
  left : Left l.base l.initial.so_far l.so_far (map Stands l.line)
      (map Stands (drop l.standing-index l.line));
  inside : l.standing-index ≤ length l.line;
}
