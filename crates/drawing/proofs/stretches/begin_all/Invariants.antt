use Rattle.std.proofs.Common.{◌≡◌, ◌<◌, ℕ, [], get_or, length, map}
use Rattle.drawing.specs.Prelude.{fresh, tracks_of_seat}
use Rattle.drawing.proofs.stretches.begin_all.Given as goal

abbrev pub invariant-loop-seat : goal.invariant-loop-seat
invariant-loop-seat l =
    record {
      long : length l.stretches.items ≡ l.seat;
      each : (i : ℕ) → i < l.seat →
          get_or (map (λ list. list.items) l.stretches.items) i []
          ≡ map (fresh l.from) (tracks_of_seat l.header.conditions i);
    }
