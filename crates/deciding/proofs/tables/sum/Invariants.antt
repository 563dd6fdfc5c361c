use Rattle.std.proofs.Common.{◌≡◌, ◌≤◌, ◌*◌, get_or}
use Rattle.deciding.specs.Below.{total, most_permits}
use Rattle.deciding.proofs.tables.sum.Given as goal

-- those passed are summed
abbrev pub invariant-loop-number : goal.invariant-loop-number
invariant-loop-number l =
    record {
      summed : l.sum ≡ total l.number-index (λ i. get_or l.numbers i 0);
      few : l.sum ≤ most_permits * l.number-index;
    }
