use Rattle.std.proofs.Common.{rules, ◌≡◌, ◌+◌, sym, ap, ◌∙◌}
use Rattle.node_arena.specs.LinkedLists.{LinkedLists, items}
use Rattle.node_arena.specs.declared.linked_lists.Link.{Link}
use Rattle.node_arena.proofs.FromLinks.{link_read, key_at, key_at_head, key_at_link, next_key}
use Rattle.node_arena.proofs.linked_lists.LinkedLists.behind.Goals as goal

pub returns-then-next-self : goal.returns-then-next-self
returns-then-next-self c list k found =
    let read = ap (λ (l : Link). l.next)
    (link_read _ _ _ c.args.key _ c.self.invariant.0 (rw (← c.self.view_is) at c.requires) c.index.ensures)
    in
    rw (← c.self.view_is)
    (sym (key_at_head _ _ c.if-next-self.true) ∙ ap (key_at c.self.inside.heads) read
    ∙ next_key _ _ _ c.self.invariant.0 list k c.args.key (rw (← c.self.view_is) at found))

pub returns-else-next-self : goal.returns-else-next-self
returns-else-next-self c list k found =
    let read = ap (λ (l : Link). l.next)
    (link_read _ _ _ c.args.key _ c.self.invariant.0 (rw (← c.self.view_is) at c.requires) c.index.ensures)
    in
    rw (← c.self.view_is)
    (sym (key_at_link _ _ c.if-next-self.false) ∙ ap (key_at c.self.inside.heads) read
    ∙ next_key _ _ _ c.self.invariant.0 list k c.args.key (rw (← c.self.view_is) at found))
