use Rattle.std.proofs.Common.{◌≡◌, length}
use Rattle.acquire_queue.specs.Line.{without_dead_head}
use Rattle.acquire_queue.proofs.queue.free_head.Given as goal

abbrev pub invariant-loop-first : goal.invariant-loop-first
invariant-loop-first l =
    (without_dead_head l.nodes.nodes ≡ without_dead_head l.fn.nodes.nodes)
    × (l.nodes.placed ≡ l.fn.nodes.placed)
    × (l.nodes.places ≡ l.fn.nodes.places)

abbrev pub decreases-loop-first : goal.decreases-loop-first
decreases-loop-first l = length l.nodes.nodes
