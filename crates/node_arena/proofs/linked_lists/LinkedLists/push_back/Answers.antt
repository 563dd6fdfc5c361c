use Rattle.std.proofs.Common.{◌++◌, arith, Some, set, [], ◌∷◌}
use Rattle.node_arena.specs.LinkedLists.{items}
use Rattle.node_arena.specs.Links.{lists_of}
use Rattle.node_arena.proofs.FromLinks.{head_within, last_within, free_not_last, Changes, Changes-splice}
use Rattle.node_arena.proofs.linked_lists.LinkedLists.push_back.Goals as goal
use Rattle.node_arena.proofs.linked_lists.LinkedLists.push_back.Goals.{After-index_mut}

pub overflow_cast-list : goal.overflow_cast-list
overflow_cast-list c =
    omega (
      arith,
      c.self.invariant.1,
      (head_within _ _ _ c.self.invariant.0 c.args.list
          (rw (← c.self.view_is) at c.requires.list_in)).1,
    )

pub splice-requires-clause-next_in : goal.splice-requires-clause-next_in
splice-requires-clause-next_in c =
    omega (
      arith,
      (head_within _ _ _ c.self.invariant.0 c.args.list
          (rw (← c.self.view_is) at c.requires.list_in)).1,
    )

pub splice-requires-clause-prev_in : goal.splice-requires-clause-prev_in
splice-requires-clause-prev_in c =
    omega (
      arith,
      last_within _ _ _ c.self.invariant.0 c.args.list
          (head_within _ _ _ c.self.invariant.0 c.args.list (rw (← c.self.view_is) at c.requires.list_in)).0,
    )

pub splice-requires-clause-not_next : goal.splice-requires-clause-not_next
splice-requires-clause-not_next c same =
    omega (
      arith,
      (head_within _ _ _ c.self.invariant.0 c.args.list
          (rw (← c.self.view_is) at c.requires.list_in)).0,
    )

pub splice-requires-clause-not_prev : goal.splice-requires-clause-not_prev
splice-requires-clause-not_prev c =
    free_not_last _ _ _ c.self.invariant.0 c.args.list c.args.key
    (head_within _ _ _ c.self.invariant.0 c.args.list (rw (← c.self.view_is) at c.requires.list_in)).0
    (rw (← c.self.view_is) at c.requires.unlinked)

-- what the splice and the write of the owner make of the fields
changes : (c : After-index_mut) →
    Changes c.self.inside.links.items c.splice.new.links.items c.self.inside.owners.items
    (set c.self.inside.owners.items c.args.key (Some c.args.list)) c.self.inside.heads c.args.list
    (items (lists_of c.self.inside.links.items c.self.inside.owners.items c.self.inside.heads)
    c.args.list ++ c.args.key ∷ [])
changes c =
    Changes-splice _ _ _ _ c.args.list c.args.key c.self.invariant.0 (omega arith)
    (head_within _ _ _ c.self.invariant.0 c.args.list (rw (← c.self.view_is) at c.requires.list_in)).0
    (rw (← c.self.view_is) at c.requires.key_in) (rw (← c.self.view_is) at c.requires.unlinked)
    c.splice.ensures.splices

pub invariant_of-self : goal.invariant_of-self
invariant_of-self c =
    ((changes (goal.at.invariant_of-self c).After-index_mut).sound, omega (arith, c.self.invariant.1, c.splice.ensures.len))

pub returns-clause-last : goal.returns-clause-last
returns-clause-last c =
    rw (← c.self.view_is) (changes (goal.at.returns-clause-last c).After-index_mut).changed

pub returns-clause-others : goal.returns-clause-others
returns-clause-others c other differs =
    rw (← c.self.view_is) ((changes (goal.at.returns-clause-others c).After-index_mut).others other differs)
