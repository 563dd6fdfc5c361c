use Rattle.std.proofs.Common.{◌∙◌, ◌+◌}
use Rattle.node_arena.proofs.Linking.{some_in_list, index_place, no_index, found_index}
use Rattle.node_arena.proofs.node_list.NodeList.behind.Goals as goal

pub behind-requires : goal.behind-requires
behind-requires c = some_in_list _ _ c.args.number c.self.invariant (rw (← c.self.view_is) at c.requires)

pub returns-in_err-place : goal.returns-in_err-place
returns-in_err-place c k node found =
    let at = index_place _ _ c.self.invariant k c.args.number node (rw (← c.self.view_is) at found) in
    rw (← c.self.view_is)
    (c.from_residual.ensures ∙ no_index _ _ c.self.invariant (k + 1) (c.in_err-place.ensures 0 k at))

pub returns : goal.returns
returns c k node found =
    let at = index_place _ _ c.self.invariant k c.args.number node (rw (← c.self.view_is) at found) in
    rw (← c.self.view_is)
    (c.at.ensures ∙ found_index _ _ c.self.invariant (k + 1) c.in_ok-place.place
    (c.in_ok-place.ensures 0 k at))
