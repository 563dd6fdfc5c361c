use Rattle.std.proofs.Common.{◌≡◌, map}
use Rattle.drawing.specs.Prelude.{fresh, tracks_of_seat}
use Rattle.drawing.proofs.stretches.begin_seat.Given as goal

abbrev pub invariant-loop-condition : goal.invariant-loop-condition
invariant-loop-condition l = l.stretches.items ≡ map (fresh l.from) (tracks_of_seat l.condition l.seat)
