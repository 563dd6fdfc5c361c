use Rattle.acquire_queue.proofs.Nodes.{below}
use Rattle.acquire_queue.proofs.queue.Queue.live_len.Goals as goal

pub returns-clause-below : goal.returns-clause-below
returns-clause-below c i stands =
    rw (← c.self.view_is) (below _ _ _ _ c.self.invariant i (rw (← c.self.view_is) at stands))
