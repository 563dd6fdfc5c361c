use Rattle.std.proofs.Common.{◌≡◌, ◌++◌, ◌≤◌, length, drop, take}
use Rattle.std.specs.List.{AllByRecursion}
use Rattle.history_text.specs.Prelude.{IsBaseLine, seat_lines, lines_text}
use Rattle.history_text.proofs.base_writing.put_seats.Given as goal

abbrev pub invariant-loop-seat : goal.invariant-loop-seat
invariant-loop-seat l = record {
  lines : l.out.items ++ lines_text (seat_lines l.seat (drop l.seat l.seats))
      ≡ l.initial.out.items ++ lines_text (seat_lines 0 l.seats);
  kept : take (length l.initial.out.items) l.out.items ≡ l.initial.out.items;
  each : AllByRecursion IsBaseLine (seat_lines l.seat (drop l.seat l.seats));
  inside : l.seat ≤ length l.seats;
}
