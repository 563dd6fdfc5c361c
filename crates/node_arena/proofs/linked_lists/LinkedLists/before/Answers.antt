use Rattle.std.proofs.Common.{rules, ◌≡◌, ◌+◌, sym, ap, ◌∙◌}
use Rattle.node_arena.specs.LinkedLists.{LinkedLists, items}
use Rattle.node_arena.specs.declared.linked_lists.Link.{Link}
use Rattle.node_arena.proofs.FromLinks.{link_read, key_at, key_at_head, key_at_link, prev_key}
use Rattle.node_arena.proofs.linked_lists.LinkedLists.before.Goals as goal

pub returns-then-prev-self : goal.returns-then-prev-self
returns-then-prev-self c list k found =
    let read = ap (λ (l : Link). l.prev)
    (link_read _ _ _ c.args.key _ c.self.invariant.0 (rw (← c.self.view_is) at c.requires) c.index.ensures)
    in
    rw (← c.self.view_is)
    (sym (key_at_head _ _ c.if-prev-self.true) ∙ ap (key_at c.self.inside.heads) read
    ∙ prev_key _ _ _ c.self.invariant.0 list k c.args.key (rw (← c.self.view_is) at found))

pub returns-else-prev-self : goal.returns-else-prev-self
returns-else-prev-self c list k found =
    let read = ap (λ (l : Link). l.prev)
    (link_read _ _ _ c.args.key _ c.self.invariant.0 (rw (← c.self.view_is) at c.requires) c.index.ensures)
    in
    rw (← c.self.view_is)
    (sym (key_at_link _ _ c.if-prev-self.false) ∙ ap (key_at c.self.inside.heads) read
    ∙ prev_key _ _ _ c.self.invariant.0 list k c.args.key (rw (← c.self.view_is) at found))
