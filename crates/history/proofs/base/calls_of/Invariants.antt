use Rattle.std.proofs.Common.{◌≡◌, ◌-◌, ◌^◌, get_or, min}
use Rattle.history.specs.Prelude.{nothing, total}
use Rattle.history.proofs.base.calls_of.Given as goal

abbrev pub invariant-loop-seat : goal.invariant-loop-seat
invariant-loop-seat l = l.sum ≡ min (total l.seat (λ i. (get_or l.seats i nothing).calls)) (2 ^ 64 - 1)
