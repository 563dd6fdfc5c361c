use Rattle.std.proofs.Common.{◌≡◌, drop, sym, ap, ◌∙◌, refl, arith, subst, IsSome}
use Rattle.acquire_queue.specs.Line.{without_dead_head}
use Rattle.acquire_queue.proofs.Nodes.{first_under, first_without, some_removed, first_seat, left_at_head, kept_taken, line_taken, nobody}
use Rattle.acquire_queue.proofs.queue.Queue.take_first.Goals as goal
use Rattle.acquire_queue.proofs.queue.Queue.take_first.Goals.{After-free_head}

-- the head and the cancelled nodes behind it are gone
taken : (c : After-free_head) → c.free_head.new.nodes.nodes ≡ without_dead_head (drop 1 c.self.inside.nodes.nodes)
taken c =
    let e = c.in_ok-first.ensures.first in
    let some = subst IsSome (sym (first_under _ c.in_ok-first.first e)) refl in
    c.free_head.ensures.nodes
    ∙ ap without_dead_head (some_removed _ c.in_ok-first.first.number _ _ c.remove.ensures.found some
    c.remove.ensures.nodes
    ∙ first_without _ c.in_ok-first.first e c.in_ok-first.ensures.apart)

pub index_mut-requires : goal.index_mut-requires
index_mut-requires c =
    let low = first_seat _ _ _ _ c.self.invariant c.in_ok-first.first c.in_ok-first.ensures.first in
    let table = c.self.inside.table.ok.0 in
    omega (arith, low, table, c.self.invariant.one_a_seat)

pub invariant_of-self : goal.invariant_of-self
invariant_of-self c =
    kept_taken _ _ _ _ c.self.invariant c.in_ok-first.first c.in_ok-first.ensures.first c.free_head.new.nodes
    _ refl
    (taken (goal.at.invariant_of-self c).After-free_head) (c.free_head.ensures.places
    ∙ c.remove.ensures.places)

pub returns-in_err-first-clause-nodes : goal.returns-in_err-first-clause-nodes
returns-in_err-first-clause-nodes c =
    rw (← c.self.view_is, nobody c.self.inside.nodes.nodes c.in_err-first.ensures.first) refl

pub returns-clause-nodes : goal.returns-clause-nodes
returns-clause-nodes c = rw (← c.self.view_is) (taken (goal.at.returns-clause-nodes c).After-free_head)

pub returns-clause-line : goal.returns-clause-line
returns-clause-line c =
    rw (← c.self.view_is)
    (line_taken _ _ _ _ c.self.invariant c.in_ok-first.first c.in_ok-first.ensures.first c.free_head.new.nodes
    (taken (goal.at.returns-clause-line c).After-free_head))

pub returns-clause-left : goal.returns-clause-left
returns-clause-left c =
    rw (← c.self.view_is)
    ((left_at_head _ _ _ _ c.self.invariant c.in_ok-first.first c.in_ok-first.ensures.first
    c.free_head.new.nodes
    (taken (goal.at.returns-clause-left c).After-free_head)).arrivals)
