use Rattle.std.proofs.Common.{arith}
use Rattle.node_arena.proofs.FromLinks.{head_within, items_apart, front_none, front_some}
use Rattle.node_arena.proofs.linked_lists.LinkedLists.front.Goals as goal

pub index-requires : goal.index-requires
index-requires c =
    omega (arith, (head_within _ _ _ c.self.invariant.0 c.args.list (rw (← c.self.view_is) at c.requires)).1)

pub overflow_sub-result : goal.overflow_sub-result
overflow_sub-result c =
    (front_some _ _ _ c.self.invariant.0 c.args.list _ (rw (← c.self.view_is) at c.requires) c.index.ensures
    c.if-first-list.false).0

pub returns-then-first-list-clause-value : goal.returns-then-first-list-clause-value
returns-then-first-list-clause-value c =
    rw (← c.self.view_is) (front_none _ _ _ c.self.invariant.0 c.args.list _
    (rw (← c.self.view_is) at c.requires) c.index.ensures c.if-first-list.true).0

pub returns-then-first-list-clause-empty : goal.returns-then-first-list-clause-empty
returns-then-first-list-clause-empty c =
    simp (← c.self.view_is) (front_none _ _ _ c.self.invariant.0 c.args.list _
    (rw (← c.self.view_is) at c.requires) c.index.ensures c.if-first-list.true).1

pub returns-else-first-list-clause-value : goal.returns-else-first-list-clause-value
returns-else-first-list-clause-value c =
    rw (← c.self.view_is) (front_some _ _ _ c.self.invariant.0 c.args.list _
    (rw (← c.self.view_is) at c.requires) c.index.ensures c.if-first-list.false).1

pub returns-else-first-list-clause-member : goal.returns-else-first-list-clause-member
returns-else-first-list-clause-member c =
    rw (← c.self.view_is) (front_some _ _ _ c.self.invariant.0 c.args.list _
    (rw (← c.self.view_is) at c.requires) c.index.ensures c.if-first-list.false).2

pub returns-then-first-list-clause-apart : goal.returns-then-first-list-clause-apart
returns-then-first-list-clause-apart c =
    rw (← c.self.view_is)
    (items_apart _ _ _ c.self.invariant.0 c.args.list
    (head_within _ _ _ c.self.invariant.0 c.args.list (rw (← c.self.view_is) at c.requires)).0)

pub returns-else-first-list-clause-apart : goal.returns-else-first-list-clause-apart
returns-else-first-list-clause-apart c =
    rw (← c.self.view_is)
    (items_apart _ _ _ c.self.invariant.0 c.args.list
    (head_within _ _ _ c.self.invariant.0 c.args.list (rw (← c.self.view_is) at c.requires)).0)
