use Rattle.std.proofs.Common.{◌≡◌, ◌+◌, length, drop, slice_get, eqb}
use Rattle.std.specs.List.{position_from}
use Rattle.acquire_queue.specs.Line.{live}
use Rattle.acquire_queue.proofs.queue.place_in.Given as goal

-- so many that wait stand before the next node, and the seat isn't one of them
abbrev pub invariant-loop : goal.invariant-loop
invariant-loop l =
    (l.next ≡ slice_get l.nodes.nodes l.counter)
    × (l.before + length (live (drop l.counter l.nodes.nodes)) ≡ length (live l.nodes.nodes))
    × (position_from (λ a. eqb a.seat l.seat) l.before (live (drop l.counter l.nodes.nodes))
    ≡ position_from (λ a. eqb a.seat l.seat) 0 (live l.nodes.nodes))
