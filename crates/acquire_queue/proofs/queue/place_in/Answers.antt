use Rattle.std.proofs.Common.{refl, sym, ◌∙◌, arith, IsSome, subst}
use Rattle.acquire_queue.proofs.Nodes.{at_index, at_found, unnot_true, unnot_false, live_one, live_none, walk_found, walk_live, walk_past, walk_end}
use Rattle.acquire_queue.proofs.queue.place_in.Goals as goal
use Rattle.acquire_queue.proofs.queue.place_in.Goals.{then-not-standing+else-standing-seat, else-not-standing}

pub returns-then-standing-seat : goal.returns-then-standing-seat
returns-then-standing-seat c =
    walk_found c.args.seat _ c.loop.counter c.loop.before c.loop.invariant.2 c.in_ok-standing.standing
    (sym c.loop.invariant.0
    ∙ c.in_ok-standing.was) (unnot_true _ c.if-not-standing.true) c.if-standing-seat.true

pub overflow_add-before : goal.overflow_add-before
overflow_add-before c =
    let one = live_one _ c.loop.counter c.in_ok-standing.standing (sym c.loop.invariant.0
    ∙ c.in_ok-standing.was)
    (unnot_true _ c.if-not-standing.true) in
    omega (arith, c.loop.invariant.1, one, c.requires)

pub behind-next-requires : goal.behind-next-requires
behind-next-requires c =
    let at = sym c.loop.invariant.0 ∙ c.in_ok-standing.was in
    subst IsSome (sym (at_found _ _ _ (at_index _ c.loop.counter _ c.first-next.ensures.apart at)).1) refl

pub loop-preserved : goal.loop-preserved
loop-preserved c =
    let at = sym c.loop.invariant.0 ∙ c.in_ok-standing.was in
    elim c.if-not-standing.branch [
      | then-not-standing+else-standing-seat w ↦
          let stays = unnot_true _ w.if-not-standing.true in
          let one = live_one _ c.loop.counter c.in_ok-standing.standing at stays in (
            c.behind-next.ensures c.loop.counter c.in_ok-standing.standing.node at,
            omega (arith, c.loop.invariant.1, one, w.before-is),
            rw w.before-is (walk_live c.args.seat _ c.loop.counter c.loop.before c.loop.invariant.2
                c.in_ok-standing.standing at stays w.if-standing-seat.false),
          )
      | else-not-standing w ↦
          let gone = unnot_false _ w.if-not-standing.false in
          let none = live_none _ c.loop.counter c.in_ok-standing.standing at gone in (
            c.behind-next.ensures c.loop.counter c.in_ok-standing.standing.node at,
            omega (arith, c.loop.invariant.1, none, w.before-is),
            rw w.before-is (walk_past c.args.seat _ c.loop.counter c.loop.before c.loop.invariant.2
                c.in_ok-standing.standing at gone),
          )
    ]

pub returns : goal.returns
returns c =
    walk_end c.args.seat _ c.loop.counter c.loop.before c.loop.invariant.2
    (omega (arith, c.loop-test.false, c.len-end.ensures))
