use Rattle.std.proofs.Common.{◌≡◌, ◌+◌, ◌≤◌, ◌++◌, Some, length, vec_len, vec_capacity, map}
use Rattle.aqs_c.proofs.opening.put_passes.Given as goal

abbrev pub invariant-loop-seat : goal.invariant-loop-seat
invariant-loop-seat l =
    (map (λ p. p.held.value) l.passes.items ++ map (λ seat. Some seat.value) l.seat-iterator.rest.items
    ≡ map (λ seat. Some seat.value) l.fn.seats.items)
    × (vec_len l.passes + length l.seat-iterator.rest.items ≤ vec_capacity l.passes)
