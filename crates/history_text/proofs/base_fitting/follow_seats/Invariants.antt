use Rattle.std.proofs.Common.{◌≤◌, drop}
use Rattle.history_text.specs.BaseLines.{seat_lines}
use Rattle.history_text.proofs.BaseFollowed.{Left}
use Rattle.history_text.proofs.base_fitting.follow_seats.Given as goal

abbrev pub invariant-loop-seat : goal.invariant-loop-seat
invariant-loop-seat l = record {
  left : Left l.base l.initial.so_far l.so_far (seat_lines 0 l.base.seats)
      (seat_lines l.seat (drop l.seat l.base.seats));
  inside : l.seat ≤ l.base.header.seats;
}
