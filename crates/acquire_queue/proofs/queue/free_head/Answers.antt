use Rattle.std.proofs.Common.{◌≡◌, Some, drop, ap, ◌∙◌, arith, length}
use Rattle.acquire_queue.specs.Line.{without_dead_head}
use Rattle.acquire_queue.proofs.Nodes.{first_under, first_without, trimmed_past, shorter_past, trimmed_by, trimmed_none, unnot_true, unnot_false}
use Rattle.acquire_queue.proofs.queue.free_head.Goals as goal
use Rattle.acquire_queue.proofs.queue.free_head.Goals.{After-remove}

removed : (c : After-remove) → c.remove.new.self.nodes ≡ drop 1 c.loop-first.nodes.nodes
removed c =
    let r : c.remove.result ≡ Some c.in-Some.first.node =
    c.remove.ensures.found ∙ first_under _ c.in-Some.first c.in-Some.ensures.first in
    (rw r at c.remove.ensures.nodes)
    ∙ first_without _ c.in-Some.first c.in-Some.ensures.first c.in-Some.ensures.apart

pub loop-first-smaller : goal.loop-first-smaller
loop-first-smaller c =
    let e = removed (goal.at.loop-first-smaller c).After-remove in
    omega (arith, ap length e, shorter_past _ c.in-Some.first c.in-Some.ensures.first)

pub loop-first-preserved : goal.loop-first-preserved
loop-first-preserved c = (
  ap without_dead_head (removed (goal.at.loop-first-preserved c).After-remove)
      ∙ trimmed_past _ c.in-Some.first c.in-Some.ensures.first (unnot_false _ c.if-not-first.false)
      ∙ c.loop-first.invariant.0,
  c.remove.ensures.placed ∙ c.loop-first.invariant.1,
  c.remove.ensures.places ∙ c.loop-first.invariant.2,
)

pub returns-then-not-first-clause-nodes : goal.returns-then-not-first-clause-nodes
returns-then-not-first-clause-nodes c =
    trimmed_by _ c.in-Some.first c.in-Some.ensures.first (unnot_true _ c.if-not-first.true)
    ∙ c.loop-first.invariant.0

pub returns-in_default-clause-nodes : goal.returns-in_default-clause-nodes
returns-in_default-clause-nodes c = trimmed_none _ c.in_default.ensures.first ∙ c.loop-first.invariant.0
