use Rattle.std.proofs.Common.{◌≡◌, Some, IsSome, sym, ap, ◌∙◌, refl, subst, arith, length}
use Rattle.std.proofs.lemmas.Option.{none-some, same_Some}
use Rattle.acquire_queue.specs.Below.{NumberedNode, StandApart, without_place}
use Rattle.acquire_queue.specs.Line.{tidied}
use Rattle.acquire_queue.proofs.Nodes.{apart-filter, find_node, found_under, at_found, unnot_true, unnot_false}
use Rattle.acquire_queue.proofs.Tidying.{IsBefore, Freed, before_node, before_at, ends_tidied, freed, number_still, once_still}
use Rattle.acquire_queue.proofs.queue.free_before.Goals as goal
use Rattle.acquire_queue.proofs.queue.free_before.Goals.{After-before-in-loop-before, After-remove}

-- what stands before the seat's node now
found : (c : After-before-in-loop-before) →
    IsBefore c.args.seat c.args.number c.loop-before.nodes.nodes c.before-in-loop-before.result
found c =
    let i = c.loop-before.invariant in
    before_node c.args.seat c.args.number c.loop-before.nodes.nodes c.before-in-loop-before.result i.apart
    (number_still c.args.seat c.args.number c.args.nodes.now.nodes c.loop-before.nodes.nodes i.tidied
    c.requires.number)
    c.before-in-loop-before.ensures

removed : (c : After-remove) →
    c.remove.new.self.nodes ≡ without_place c.in-Some.before.number.place c.loop-before.nodes.nodes
removed c =
    let apart = c.loop-before.invariant.apart in
    let f = found (goal.at.loop-before-preserved c).After-before-in-loop-before in
    let at = before_at _ f.found.k c.in-Some.before apart (sym f.is ∙ c.in-Some.is) in
    let r : c.remove.result ≡ Some c.in-Some.before.node = c.remove.ensures.found ∙ (at_found _ _ _ at).1 in
    (rw r at c.remove.ensures.nodes)

pub before-requires : goal.before-requires
before-requires c =
    let i = c.loop-before.invariant in
    let e = number_still c.args.seat c.args.number c.args.nodes.now.nodes c.loop-before.nodes.nodes i.tidied
    c.requires.number in
    let f = find_node c.args.seat c.args.number c.loop-before.nodes.nodes i.apart e in
    subst IsSome (sym (found_under c.args.seat c.args.number c.loop-before.nodes.nodes f)) refl

-- one cancelled node fewer stands there
freed_now : (c : After-remove) →
    Freed c.args.seat c.in-Some.before.number.place c.loop-before.nodes.nodes
freed_now c =
    let f = found (goal.at.loop-before-preserved c).After-before-in-loop-before in
    freed c.args.seat f.found.node c.in-Some.before f.found.stays f.found.seat
    (unnot_false _ c.if-not-before.false) c.loop-before.nodes.nodes f.found.k c.loop-before.invariant.apart
    f.found.here (sym f.is ∙ c.in-Some.is)

pub loop-before-preserved : goal.loop-before-preserved
loop-before-preserved c =
    let i = c.loop-before.invariant in
    record {
      tidied = ap (tidied c.args.seat) (removed c) ∙ (freed_now c).tidied ∙ i.tidied;
      apart = subst StandApart (sym (removed c)) (apart-filter _ _ i.apart);
      placed = c.remove.ensures.placed ∙ i.placed;
      places = c.remove.ensures.places ∙ i.places;
    }

pub loop-before-smaller : goal.loop-before-smaller
loop-before-smaller c =
    let fewer = (freed_now c).shorter in omega (arith, ap length (removed c), fewer)

pub returns-then-not-before-clause-nodes : goal.returns-then-not-before-clause-nodes
returns-then-not-before-clause-nodes c =
    let i = c.loop-before.invariant in
    let f = found (goal.at.returns-then-not-before-clause-nodes c).After-before-in-loop-before in
    ends_tidied c.args.seat c.args.number c.loop-before.nodes.nodes _
    (once_still c.args.seat c.args.nodes.now.nodes c.loop-before.nodes.nodes i.tidied c.requires.once)
    i.apart f
    (λ b e. ap (λ (z : NumberedNode). z.node.cancelled) (same_Some _ _ (sym e ∙ c.in-Some.is))
    ∙ unnot_true _ c.if-not-before.true)
    ∙ i.tidied

pub returns-clause-nodes : goal.returns-clause-nodes
returns-clause-nodes c =
    let i = c.loop-before.invariant in
    let f = found (goal.at.returns-clause-nodes c).After-before-in-loop-before in
    ends_tidied c.args.seat c.args.number c.loop-before.nodes.nodes _
    (once_still c.args.seat c.args.nodes.now.nodes c.loop-before.nodes.nodes i.tidied c.requires.once)
    i.apart f
    (λ b e. absurd (none-some b (sym c.in_default.is ∙ e)))
    ∙ i.tidied
