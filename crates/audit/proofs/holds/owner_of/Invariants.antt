use Rattle.std.proofs.Common.{◌≡◌, get_or}
use Rattle.audit.specs.Below.{nothing, seat_with}
use Rattle.audit.proofs.holds.owner_of.Given as goal

-- the owner among the seats passed
abbrev pub invariant-loop-seat : goal.invariant-loop-seat
invariant-loop-seat l = l.owner ≡ seat_with l.seat (λ i. (get_or l.seats i nothing).exclusive)
