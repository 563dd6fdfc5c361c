use Rattle.std.proofs.Common.{◌≡◌, ◌≤◌, length, map, take, vec_capacity}
use Rattle.frame.specs.inner.Snapshot.{in_base}
use Rattle.frame.proofs.snapshot.write_seats.Given as goal

-- the seats passed, and a place for each of the others
abbrev pub invariant-loop-seat : goal.invariant-loop-seat
invariant-loop-seat l =
    record {
      items : l.table.items ≡ map in_base (take l.seat-index l.seats);
      len : length l.table.items ≡ l.seat-index;
      capacity : length l.seats ≤ vec_capacity l.table;
    }
