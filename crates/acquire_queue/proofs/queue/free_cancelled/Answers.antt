use Rattle.std.proofs.Common.{◌≡◌, Some, refl, sym, ap, ◌∙◌, arith}
use Rattle.std.proofs.lemmas.Bool.{cond-true, cond-false}
use Rattle.acquire_queue.specs.Below.{Nodes, without_place}
use Rattle.acquire_queue.proofs.Nodes.{swept_none, swept_one, swept_skip, swept_all, at_found}
use Rattle.acquire_queue.proofs.queue.free_cancelled.Goals as goal
use Rattle.acquire_queue.proofs.queue.free_cancelled.Goals.{in-Some+then-standing, in-Some+else-standing, in_default}

pub loop-place-init : goal.loop-place-init
loop-place-init c = (swept_none _, refl, refl)

pub loop-place-preserved : goal.loop-place-preserved
loop-place-preserved c =
    let i = c.loop-place.invariant in
    let apart = c.limit-place-end.ensures.apart in
    elim c.match-at.branch [
      | in-Some+then-standing w ↦
          let at = sym c.at.ensures.at ∙ w.in-Some.is in
          let found = at_found _ _ _ at in
          let r : w.remove.result ≡ Some w.in-Some.standing.node = w.remove.ensures.found ∙ found.1 in (
            ap (λ (n : Nodes). n.nodes) w.nodes-is ∙ (rw r at w.remove.ensures.nodes)
                ∙ ap (λ p. without_place p c.loop-place.nodes.nodes) found.0
                ∙ sym (cond-true _ _ _ w.if-standing.true)
                ∙ swept_one c.loop-place.place _ _ _ apart i.0 at,
            ap (λ (n : Nodes). n.placed) w.nodes-is ∙ w.remove.ensures.placed ∙ i.1,
            ap (λ (n : Nodes). n.places) w.nodes-is ∙ w.remove.ensures.places ∙ i.2,
          )
      | in-Some+else-standing w ↦
          let at = sym c.at.ensures.at ∙ w.in-Some.is in (
            ap (λ (n : Nodes). n.nodes) w.nodes-is ∙ sym (cond-false _ _ _ w.if-standing.false)
                ∙ swept_one c.loop-place.place _ _ _ apart i.0 at,
            ap (λ (n : Nodes). n.placed) w.nodes-is ∙ i.1,
            ap (λ (n : Nodes). n.places) w.nodes-is ∙ i.2,
          )
      | in_default w ↦ (
        ap (λ (n : Nodes). n.nodes) w.nodes-is
            ∙ swept_skip c.loop-place.place _ _ i.0 (sym c.at.ensures.at ∙ w.in_default.is),
        ap (λ (n : Nodes). n.placed) w.nodes-is ∙ i.1,
        ap (λ (n : Nodes). n.places) w.nodes-is ∙ i.2,
      )
    ]

pub returns-clause-nodes : goal.returns-clause-nodes
returns-clause-nodes c =
    c.loop-place.invariant.0
    ∙ swept_all c.loop-place.place _
    (λ q some. omega (arith, c.limit-place-end.ensures.below q some, c.loop-place-test.false))
