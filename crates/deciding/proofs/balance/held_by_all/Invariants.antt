use Rattle.std.proofs.Common.{◌≡◌, ◌≤◌, ◌*◌, List}
use Rattle.deciding.specs.Below.{Entry, held, total, Start}
use Rattle.deciding.proofs.Bounds.{most_at_once}
use Rattle.deciding.proofs.balance.held_by_all.Given as goal

-- the holds of the seats passed are summed
abbrev pub invariant-loop-seat : goal.invariant-loop-seat
invariant-loop-seat g l =
    record {
      summed : (s : Start) (h : List Entry) → g.T.ObjectState.stands s h l.state →
          l.all ≡ total l.seat (λ i. held s h i l.mode);
      few : l.all ≤ most_at_once * l.seat;
    }
