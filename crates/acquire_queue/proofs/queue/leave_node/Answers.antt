use Rattle.std.proofs.Common.{sym, ap, ◌∙◌}
use Rattle.node_arena.specs.NodeList.{without_place}
use Rattle.acquire_queue.specs.Line.{without_dead_head}
use Rattle.acquire_queue.proofs.Nodes.{left_first, first_without, some_removed}
use Rattle.acquire_queue.proofs.queue.leave_node.Goals as goal

pub returns-in-Some-clause-nodes : goal.returns-in-Some-clause-nodes
returns-in-Some-clause-nodes c =
    let gone = some_removed _ c.args.number _ _ c.remove.ensures.found c.requires c.remove.ensures.nodes in
    c.free_head.ensures.nodes
    ∙ ap without_dead_head (gone ∙ ap (λ p. without_place p c.args.nodes.now.nodes) (sym c.if-first-number.true)
    ∙ first_without _ c.in-Some.first c.in-Some.ensures.first c.in-Some.ensures.apart)
    ∙ sym (left_first _ c.in-Some.first c.args.number c.in-Some.ensures.first c.if-first-number.true)
