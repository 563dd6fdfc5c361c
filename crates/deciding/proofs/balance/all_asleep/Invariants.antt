use Rattle.std.proofs.Common.{◌≡◌, ◌≤◌, ◌*◌, List, length}
use Rattle.deciding.specs.Below.{Entry, total, sleepers, Start}
use Rattle.deciding.proofs.balance.all_asleep.Given as goal

-- those who sleep on the conditions passed are summed
abbrev pub invariant-loop-condition : goal.invariant-loop-condition
invariant-loop-condition g l =
    record {
      summed : (s : Start) (h : List Entry) → g.T.ObjectState.stands s h l.state →
          l.all ≡ total l.condition (λ c. length (sleepers s h c));
      few : l.all ≤ 65535 * l.condition;
    }
