use Rattle.std.proofs.Common.{◌≡◌, length}
use Rattle.node_arena.specs.NodeList.{StandApart}
use Rattle.acquire_queue.specs.Line.{tidied}
use Rattle.acquire_queue.proofs.queue.free_before.Given as goal

abbrev pub invariant-loop-before : goal.invariant-loop-before
invariant-loop-before l = record {
  tidied : tidied l.fn.seat l.nodes.nodes ≡ tidied l.fn.seat l.fn.nodes.nodes;
  apart : StandApart l.nodes.nodes;
  placed : l.nodes.placed ≡ l.fn.nodes.placed;
  places : l.nodes.places ≡ l.fn.nodes.places;
}

abbrev pub decreases-loop-before : goal.decreases-loop-before
decreases-loop-before l = length l.nodes.nodes
