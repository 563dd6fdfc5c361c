use Rattle.std.proofs.Common.{◌≡◌, ◌++◌, ◌≤◌, length, drop, map, take}
use Rattle.std.specs.List.{AllByRecursion}
use Rattle.history_text.specs.Prelude.{IsBaseLine, sleeper_lines, lines_text}
use Rattle.history_text.proofs.base_writing.put_sleepers.Given as goal

abbrev pub invariant-loop-condition : goal.invariant-loop-condition
invariant-loop-condition l = record {
  lines : l.out.items
      ++ lines_text (sleeper_lines l.condition (drop l.condition (map (λ list. list.items) l.lists)))
      ≡ l.initial.out.items ++ lines_text (sleeper_lines 0 (map (λ list. list.items) l.lists));
  kept : take (length l.initial.out.items) l.out.items ≡ l.initial.out.items;
  each : AllByRecursion IsBaseLine
      (sleeper_lines l.condition (drop l.condition (map (λ list. list.items) l.lists)));
  inside : l.condition ≤ length l.lists;
}
