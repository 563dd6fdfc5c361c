use Rattle.std.proofs.Common.{◌≡◌, ◌≤◌, ◌++◌, ◌-◌, length, take, reverse}
use Rattle.history_text.specs.Below.{base_on, ended}
use Rattle.history_text.specs.Prelude.{head_line, head_of, lines_told, entry_lines, lines_text}
use Rattle.history_text.proofs.history_text.written.Given as goal

abbrev pub invariant-loop-entry : goal.invariant-loop-entry
invariant-loop-entry l = record {
  lines : l.out.items
      ≡ (ended (head_line (head_of (base_on l.header l.history)))
      ++ lines_text (lines_told (base_on l.header l.history)))
      ++ entry_lines (base_on l.header l.history).entries (take l.number (reverse l.history.entries));
  inside : l.number ≤ length (reverse l.history.entries);
}

abbrev pub decreases-loop-entry : goal.decreases-loop-entry
decreases-loop-entry l = length (reverse l.history.entries) - l.number
