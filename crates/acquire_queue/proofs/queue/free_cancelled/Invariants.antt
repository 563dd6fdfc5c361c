use Rattle.std.proofs.Common.{◌≡◌}
use Rattle.acquire_queue.proofs.Nodes.{swept_below}
use Rattle.acquire_queue.proofs.queue.free_cancelled.Given as goal

-- the cancelled nodes at the places so far are gone
abbrev pub invariant-loop-place : goal.invariant-loop-place
invariant-loop-place l =
    (l.nodes.nodes ≡ swept_below l.place l.fn.nodes.nodes)
    × (l.nodes.placed ≡ l.fn.nodes.placed)
    × (l.nodes.places ≡ l.fn.nodes.places)
