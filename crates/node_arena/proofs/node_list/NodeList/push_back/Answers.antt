use Rattle.std.proofs.Common.{◌≡◌, Some, None, sym, ap, ◌∙◌}
use Rattle.node_arena.proofs.Linking.{not_listed, at_place-out, linked-push, nodes-push}
use Rattle.node_arena.proofs.node_list.NodeList.push_back.Goals as goal

pub invariant_of-self : goal.invariant_of-self
invariant_of-self c =
    linked-push c.self.inside.arena c.self.inside.links c.self.invariant _ _ c.place-number.result.place _
    c.place-number.ensures.vacant c.place-number.ensures.changes c.place-number.ensures.taken
    c.push_back.ensures.moves
    c.push_back.ensures.last

pub returns-clause-nodes : goal.returns-clause-nodes
returns-clause-nodes c =
    rw (← c.self.view_is, c.push_back.ensures.last)
    (nodes-push _ _ c.place-number.result.place c.place-number.ensures.changes.others _ _
    (not_listed _ _ c.self.invariant _ c.place-number.ensures.vacant) c.place-number.ensures.changes.changed)

pub returns-clause-vacant : goal.returns-clause-vacant
returns-clause-vacant c =
    rw (← c.self.view_is)
    (at_place-out _ _ c.place-number.result.place
    (not_listed _ _ c.self.invariant _ c.place-number.ensures.vacant))
