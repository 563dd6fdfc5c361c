use Rattle.std.proofs.Common.{ap, ◌∙◌}
use Rattle.acquire_queue.specs.Line.{live}
use Rattle.acquire_queue.proofs.Nodes.{kept_swept, swept_live}
use Rattle.acquire_queue.proofs.queue.Queue.sweep.Goals as goal

pub invariant_of-self : goal.invariant_of-self
invariant_of-self c =
    kept_swept _ _ _ _ c.self.invariant c.free_cancelled.new.nodes c.free_cancelled.ensures.nodes
    c.free_cancelled.ensures.places

pub returns-clause-line : goal.returns-clause-line
returns-clause-line c =
    rw (← c.self.view_is) (ap live c.free_cancelled.ensures.nodes ∙ swept_live c.self.inside.nodes.nodes)
