use Rattle.std.proofs.Common.{◌∙◌}
use Rattle.node_arena.proofs.Linking.{some_in_list, index_place, before_none, before_some}
use Rattle.node_arena.proofs.node_list.NodeList.before.Goals as goal

pub before-requires : goal.before-requires
before-requires c = some_in_list _ _ c.args.number c.self.invariant (rw (← c.self.view_is) at c.requires)

pub returns-in_err-place : goal.returns-in_err-place
returns-in_err-place c k node found =
    let at = index_place _ _ c.self.invariant k c.args.number node (rw (← c.self.view_is) at found) in
    rw (← c.self.view_is)
    (c.from_residual.ensures ∙ before_none _ _ c.self.invariant k (c.in_err-place.ensures 0 k at))

pub returns : goal.returns
returns c k node found =
    let at = index_place _ _ c.self.invariant k c.args.number node (rw (← c.self.view_is) at found) in
    rw (← c.self.view_is)
    (c.at.ensures ∙ before_some _ _ c.self.invariant k c.in_ok-place.place (c.in_ok-place.ensures 0 k at))
