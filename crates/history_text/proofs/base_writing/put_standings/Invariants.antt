use Rattle.std.proofs.Common.{◌≡◌, ◌++◌, ◌≤◌, length, drop, map, take}
use Rattle.std.specs.List.{AllByRecursion}
use Rattle.history_text.specs.Prelude.{Stands, IsBaseLine, lines_text}
use Rattle.history_text.proofs.base_writing.put_standings.Given as goal

abbrev pub invariant-loop-standing : goal.invariant-loop-standing
invariant-loop-standing l = record {
  lines : l.out.items ++ lines_text (map Stands (drop l.standing-index l.line))
      ≡ l.initial.out.items ++ lines_text (map Stands l.line);
  kept : take (length l.initial.out.items) l.out.items ≡ l.initial.out.items;
  each : AllByRecursion IsBaseLine (map Stands (drop l.standing-index l.line));
  inside : l.standing-index ≤ length l.line;
}
