use Rattle.std.proofs.Common.{sym, ◌∙◌, ◌≡◌, get_or, None, Some, rules}
use Rattle.node_arena.proofs.FromLinks.{owner_known, absent_elsewhere}
use Rattle.node_arena.proofs.linked_lists.LinkedLists.list_of.Goals as goal

pub returns-in-Some-Some-clause-in_range : goal.returns-in-Some-Some-clause-in_range
returns-in-Some-Some-clause-in_range c =
    let read : Some c.in-Some-Some.owner ≡ get_or c.self.inside.owners.items c.args.key None = search rules in
    rw (← c.self.view_is) (rw (← read) at (owner_known _ _ _ c.self.invariant.0 c.args.key))

pub returns-in-Some-Some-clause-absent : goal.returns-in-Some-Some-clause-absent
returns-in-Some-Some-clause-absent c list other =
    let read : Some c.in-Some-Some.owner ≡ get_or c.self.inside.owners.items c.args.key None = search rules in
    simp (← c.self.view_is) (absent_elsewhere _ _ _ c.self.invariant.0 c.args.key list (λ owned. other (read
    ∙ owned)))

pub returns-in_default-clause-absent : goal.returns-in_default-clause-absent
returns-in_default-clause-absent c list other =
    let read : None ≡ get_or c.self.inside.owners.items c.args.key None = search rules in
    simp (← c.self.view_is) (absent_elsewhere _ _ _ c.self.invariant.0 c.args.key list (λ owned. other (read
    ∙ owned)))

pub returns-in_default-2-clause-absent : goal.returns-in_default-2-clause-absent
returns-in_default-2-clause-absent c list other =
    let read : None ≡ get_or c.self.inside.owners.items c.args.key None = search rules in
    simp (← c.self.view_is) (absent_elsewhere _ _ _ c.self.invariant.0 c.args.key list (λ owned. other (read
    ∙ owned)))
