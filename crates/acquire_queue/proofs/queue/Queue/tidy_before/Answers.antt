use Rattle.std.proofs.Common.{sym, ap, ◌∙◌, subst}
use Rattle.std.proofs.lemmas.Option.{none-some}
use Rattle.history.specs.Line.{place_of}
use Rattle.acquire_queue.specs.Line.{Line, number_of, live, IsTidy}
use Rattle.acquire_queue.proofs.Nodes.{no_number, no_place}
use Rattle.acquire_queue.proofs.Tidying.{kept_tidied, tidied_live, tidied_number, tidied_is_tidy, tidied_tidy, absent_tidy, same_line}
use Rattle.acquire_queue.proofs.queue.Queue.tidy_before.Goals as goal
use Rattle.acquire_queue.proofs.queue.Queue.tidy_before.Goals.{In_default}

pub invariant_of-self : goal.invariant_of-self
invariant_of-self c =
    kept_tidied c.args.seat _ _ _ _ _ c.self.invariant c.free_before.ensures.nodes
    c.free_before.ensures.places

pub returns-in-Some-clause-tidy : goal.returns-in-Some-clause-tidy
returns-in-Some-clause-tidy c =
    subst (IsTidy c.args.seat) (sym c.free_before.ensures.nodes)
    (tidied_is_tidy c.args.seat c.self.inside.nodes.nodes)

pub returns-in-Some-clause-number : goal.returns-in-Some-clause-number
returns-in-Some-clause-number c =
    rw (← c.self.view_is)
    (ap (number_of c.args.seat) c.free_before.ensures.nodes
    ∙ tidied_number c.args.seat c.args.seat c.self.inside.nodes.nodes)

pub returns-in-Some-clause-line : goal.returns-in-Some-clause-line
returns-in-Some-clause-line c =
    rw (← c.self.view_is)
    (ap live c.free_before.ensures.nodes ∙ tidied_live c.args.seat c.self.inside.nodes.nodes)

pub returns-in-Some-clause-kept : goal.returns-in-Some-clause-kept
returns-in-Some-clause-kept c tidy =
    let was = subst (λ (v : Line). IsTidy c.args.seat v.nodes) (sym c.self.view_is) tidy in
    same_line c.self.inside.seats c.free_before.new.nodes c.self.inside.nodes
    (c.free_before.ensures.nodes ∙ tidied_tidy c.args.seat c.self.inside.nodes.nodes was)
    c.free_before.ensures.placed
    ∙ c.self.view_is

pub returns-in-Some-clause-absent : goal.returns-in-Some-clause-absent
returns-in-Some-clause-absent c absent =
    let none = no_number c.args.seat c.args.self.now.nodes
    (ap (place_of c.args.seat) (sym c.in-Some.ensures.live) ∙ absent) in
    absurd (none-some c.in-Some.number (sym none ∙ sym c.in-Some.ensures.number))

-- a seat that doesn't wait
tidy : (c : In_default) → IsTidy c.args.seat c.args.self.now.nodes
tidy c =
    rw (← c.self.view_is)
    (absent_tidy c.args.seat c.self.inside.nodes.nodes c.self.invariant.apart
    (no_place c.args.seat c.self.inside.nodes.nodes
    (rw (← c.self.view_is) at (sym c.number_of.ensures.number ∙ c.in_default.is))))

pub returns-in_default-clause-nodes : goal.returns-in_default-clause-nodes
returns-in_default-clause-nodes c =
    sym (tidied_tidy c.args.seat c.args.self.now.nodes
    (tidy (goal.at.returns-in_default-clause-nodes c).In_default))

pub returns-in_default-clause-tidy : goal.returns-in_default-clause-tidy
returns-in_default-clause-tidy c = tidy (goal.at.returns-in_default-clause-tidy c).In_default
