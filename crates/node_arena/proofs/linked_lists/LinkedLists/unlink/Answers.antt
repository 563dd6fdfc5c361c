use Rattle.std.proofs.Common.{◌+◌, sym, ap, ◌∙◌, arith, length, None, Some, set}
use Rattle.node_arena.specs.LinkedLists.{items, without}
use Rattle.node_arena.specs.Links.{lists_of}
use Rattle.node_arena.proofs.FromLinks.{before_within, after_within, shorter_after_skip, Changes, Changes-skip}
use Rattle.node_arena.proofs.linked_lists.LinkedLists.unlink.Goals as goal
use Rattle.node_arena.proofs.linked_lists.LinkedLists.unlink.Goals.{After-index_mut}

pub skip-requires-clause-prev_in : goal.skip-requires-clause-prev_in
skip-requires-clause-prev_in c =
    omega (
      arith,
      before_within _ _ _ c.self.invariant.0 c.in_ok-list.list c.args.key
          (rw (← c.self.view_is) at (sym c.in_ok-list.ensures.value)),
    )

pub skip-requires-clause-next_in : goal.skip-requires-clause-next_in
skip-requires-clause-next_in c =
    omega (
      arith,
      after_within _ _ _ c.self.invariant.0 c.in_ok-list.list c.args.key
          (rw (← c.self.view_is) at (sym c.in_ok-list.ensures.value)),
    )

-- what the skip and the write of the owner make of the fields
changes : (c : After-index_mut) →
    Changes c.self.inside.links.items c.skip.new.links.items c.self.inside.owners.items
    (set c.self.inside.owners.items c.args.key None) c.self.inside.heads c.in_ok-list.list
    (without c.args.key (items (lists_of c.self.inside.links.items c.self.inside.owners.items
    c.self.inside.heads) c.in_ok-list.list))
changes c =
    Changes-skip _ _ _ _ c.in_ok-list.list c.args.key c.self.invariant.0 (omega arith)
    (rw (← c.self.view_is) at (sym c.in_ok-list.ensures.value)) c.skip.ensures.skips

pub invariant_of-self : goal.invariant_of-self
invariant_of-self c =
    ((changes (goal.at.invariant_of-self c).After-index_mut).sound, omega (arith, c.self.invariant.1, c.skip.ensures.len))

pub returns-clause-left : goal.returns-clause-left
returns-clause-left c =
    rw (← c.self.view_is) (changes (goal.at.returns-clause-left c).After-index_mut).changed

pub returns-clause-shorter : goal.returns-clause-shorter
returns-clause-shorter c =
    rw (← c.self.view_is)
    (ap (λ keys. length keys + 1) (changes (goal.at.returns-clause-shorter c).After-index_mut).changed
    ∙ shorter_after_skip _ c.skip.new.links.items _ _ c.in_ok-list.list c.args.key c.self.invariant.0
    (omega arith) (rw (← c.self.view_is) at (sym c.in_ok-list.ensures.value)))

pub returns-clause-others : goal.returns-clause-others
returns-clause-others c other differs =
    rw (← c.self.view_is)
    ((changes (goal.at.returns-clause-others c).After-index_mut).others other
    (λ same. differs (ap Some (sym same))))
