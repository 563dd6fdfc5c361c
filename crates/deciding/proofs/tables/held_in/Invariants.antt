use Rattle.std.proofs.Common.{◌≡◌, ◌≤◌, length, map, take, vec_capacity}
use Rattle.history.specs.Base.{holds_of}
use Rattle.deciding.proofs.tables.held_in.Given as goal

-- what the seats passed hold, and a place for each of the others
abbrev pub invariant-loop-has : goal.invariant-loop-has
invariant-loop-has l =
    record {
      items : l.held.items ≡ map (λ has. holds_of has l.mode) (take l.has-index l.seats);
      len : length l.held.items ≡ l.has-index;
      capacity : length l.seats ≤ vec_capacity l.held;
    }
