use Rattle.std.proofs.Common.{◌≡◌, ◌++◌, ◌≤◌, length, drop, map, take}
use Rattle.std.specs.List.{AllByRecursion}
use Rattle.history_text.specs.Prelude.{Sleeps, IsBaseLine, lines_text}
use Rattle.history_text.proofs.base_writing.put_asleep.Given as goal

abbrev pub invariant-loop-sleeper : goal.invariant-loop-sleeper
invariant-loop-sleeper l = record {
  lines : l.out.items ++ lines_text (map (Sleeps l.condition) (drop l.sleeper-index l.list))
      ≡ l.initial.out.items ++ lines_text (map (Sleeps l.condition) l.list);
  kept : take (length l.initial.out.items) l.out.items ≡ l.initial.out.items;
  each : AllByRecursion IsBaseLine (map (Sleeps l.condition) (drop l.sleeper-index l.list));
  inside : l.sleeper-index ≤ length l.list;
}
