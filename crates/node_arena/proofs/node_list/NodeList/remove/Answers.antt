use Rattle.std.proofs.Common.{◌≡◌, Some, None, sym, ap, ◌∙◌}
use Rattle.node_arena.specs.LinkedLists.{items, without}
use Rattle.node_arena.proofs.Linking.{under_is, found_some, in_list, linked-without, nodes-without}
use Rattle.node_arena.proofs.node_list.NodeList.remove.Goals as goal
use Rattle.node_arena.proofs.node_list.NodeList.remove.Goals.{After-unlink}

pub returns-in_err-node-clause-found : goal.returns-in_err-node-clause-found
returns-in_err-node-clause-found c =
    rw (← c.self.view_is, under_is _ _ c.self.invariant c.args.number)
    (c.from_residual.ensures ∙ c.in_err-node.ensures.found)

left : (c : After-unlink) →
    items c.unlink.new.self 0 ≡ without c.args.number.place (items c.self.inside.links 0)
left c =
    let r : c.unlink.result ≡ Some 0 =
    c.unlink.ensures.value ∙ in_list _ _ c.self.invariant c.args.number _ (sym c.in_ok-node.ensures.found) in
    rw r at c.unlink.ensures.left

pub invariant_of-self-2 : goal.invariant_of-self-2
invariant_of-self-2 c =
    linked-without c.self.inside.arena c.self.inside.links c.self.invariant _ _ c.args.number.place
    (found_some c.self.inside.arena c.args.number _ (sym c.in_ok-node.ensures.found))
    c.in_ok-node.ensures.changes
    c.in_ok-node.ensures.taken c.unlink.ensures.moves (left (goal.at.invariant_of-self-2 c).After-unlink)

pub returns-clause-found : goal.returns-clause-found
returns-clause-found c =
    rw (← c.self.view_is, under_is _ _ c.self.invariant c.args.number) c.in_ok-node.ensures.found

pub returns-clause-nodes : goal.returns-clause-nodes
returns-clause-nodes c =
    rw (← c.self.view_is, left (goal.at.returns-clause-nodes c).After-unlink)
    (nodes-without _ _ c.args.number.place c.in_ok-node.ensures.changes.others _)
