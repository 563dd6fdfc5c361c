use Rattle.std.proofs.Common.{◌≡◌, ◌<◌, ◌≤◌, ℕ, [], None, get_or, length, vec_capacity}
use Rattle.summing.specs.Below.{Start, LedgerStand}
use Rattle.summing.specs.Prelude.{no_tally, begun}
use Rattle.summing.proofs.summing.seats_at_start.Given as goal

-- a tally for each seat passed, and a place for each of the others
abbrev pub invariant-loop-seat : goal.invariant-loop-seat
invariant-loop-seat l =
    record {
      long : length l.seats.items ≡ l.seat;
      capacity : l.count ≤ vec_capacity l.seats;
      none : (s : Start) → LedgerStand s [] l.ledger → (i : ℕ) → i < l.seat →
          get_or l.seats.items i (no_tally None) ≡ no_tally (begun s [] i);
    }
