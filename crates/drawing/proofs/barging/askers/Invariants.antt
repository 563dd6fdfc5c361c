use Rattle.std.proofs.Common.{◌≡◌, ◌≤◌, List}
use Rattle.drawing.specs.Below.{Entry, LedgerStand, Start}
use Rattle.drawing.specs.Barging.{askers}
use Rattle.drawing.proofs.barging.askers.Given as goal

abbrev pub invariant-loop-seat : goal.invariant-loop-seat
invariant-loop-seat l =
    record {
      few : l.count ≤ l.seat;
      is : (s : Start) (h : List Entry) → LedgerStand s h l.ledger → l.count ≡ askers s h l.seat;
    }
