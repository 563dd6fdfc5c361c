use Rattle.std.proofs.Common.{◌≡◌, ◌++◌, Some, All, map}
use Rattle.std.specs.Arc.{arc_value}
use Rattle.aqs_c.specs.Opening.{idle}
use Rattle.aqs_c.proofs.opening.open_seats.Given as goal

abbrev pub invariant-loop-right : goal.invariant-loop-right
invariant-loop-right l =
    All (λ p. p.lock ≡ arc_value l.shared) l.right-iterator.rest.items
    × (map (λ seat. Some seat.value) l.seats.items ++ map idle l.right-iterator.rest.items
    ≡ map idle l.fn.rights.items)
