use Rattle.std.proofs.Common.{◌<◌, None, sym, ap, ◌∙◌, subst, arith, ◌++◌}
use Rattle.driver.specs.Below.{Header, StepsHeader, steps_form, steps_so_far}
use Rattle.streams.proofs.Faults.{err_is}
use Rattle.driver.specs.StepReader.{common_act, progress}
use Rattle.driver.proofs.Driven.{answered_act, answered_more, answered_none}
use Rattle.driver.proofs.ReadingAhead.{no_further}
use Rattle.driver.proofs.replay.answer_commons.Goals as goal

pub loop-seat-init : goal.loop-seat-init
loop-seat-init g c = record {
  further = omega arith;
  answered = λ left. answered_none (progress c.args.steps.now left) c.args.core.now c.args.tape.now;
}

pub answer_common-requires : goal.answer_common-requires
answer_common-requires g c =
    let was = c.loop-seat.invariant.answered None in
    subst (λ (k : Header). c.in-Some.seat < k.seats)
    (sym (was.object ∙ c.requires ∙ ap (λ (k : StepsHeader). k.header) (sym was.same)))
    c.in-Some.ensures.seated.0

pub loop-seat-smaller : goal.loop-seat-smaller
loop-seat-smaller g c = omega (arith, c.in-Some.ensures.counted, c.in-Some.ensures.few)

pub loop-seat-preserved : goal.loop-seat-preserved
loop-seat-preserved g c =
    let was = c.loop-seat in
    let act = common_act (c.in-Some.seat, c.in-Some.common) in
    record {
      further = omega (arith, was.invariant.further, c.in-Some.ensures.counted);
      answered = λ left. answered_more (progress c.args.steps.now left) (progress was.steps left)
          (progress c.next_common.new.self left) c.args.core.now was.core c.answer_common.new.core
          c.args.tape.now was.tape c.answer_common.new.tape (was.invariant.answered left)
          (answered_act _ _ act was.core c.answer_common.new.core was.tape c.answer_common.new.tape left
          (c.in-Some.ensures.next left) c.in-Some.ensures.header c.in_ok-answer_common.ensures);
    }

pub returns-clause-ok : goal.returns-clause-ok
returns-clause-ok g c = rw c.in_default.ensures.none c.loop-seat.invariant.answered

pub returns-in_err-answer_common-clause-err : goal.returns-in_err-answer_common-clause-err
returns-in_err-answer_common-clause-err g c =
    let held = c.next_common.new.self in
    let passed = c.from_residual in
    rw (err_is passed.result c.in_err-answer_common.field-0.0 passed.ensures) (λ left text items were.
    let a = c.loop-seat.invariant.answered left in
    no_further steps_form text (steps_so_far held.header held.count) held.bytes left _ c.in-Some.ensures.held
    (c.in-Some.ensures.next left text (items ++ a.acts) (a.read text items were)))
