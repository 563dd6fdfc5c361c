use Rattle.std.proofs.Common.{ap, arith}
use Rattle.acquire_queue.specs.Line.{Line}
use Rattle.acquire_queue.proofs.Nodes.{few_wait}
use Rattle.acquire_queue.proofs.queue.Queue.standing.Goals as goal

pub overflow_cast-result : goal.overflow_cast-result
overflow_cast-result c =
    omega (
      arith,
      few_wait _ _ _ _ c.self.invariant,
      c.self.invariant.bounded,
      c.len.ensures,
      c.requires,
      ap (λ (v : Line). v.seats) c.self.view_is,
    )
