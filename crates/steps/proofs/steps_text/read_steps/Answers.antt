use Rattle.std.proofs.Common.{arith}
use Rattle.std.specs.Vec.{vec_len}
use Rattle.history.specs.Text.{ended}
use Rattle.streams.proofs.Faults.{fault_passed}
use Rattle.streams.proofs.UnderWay.{left_over, read_on, shorter}
use Rattle.steps.specs.StepLines.{act_line}
use Rattle.steps.specs.StepsText.{steps_form, steps_so_far}
use Rattle.steps.proofs.steps_text.read_steps.Goals as goal

pub returns-in_err-act : goal.returns-in_err-act
returns-in_err-act c =
    let found =
    c.in_err-act.ensures.line c.args.text.now c.loop-acts.acts.items
    (rw c.len.ensures c.loop-acts.invariant.read) in
    fault_passed steps_form _ c.args.text.now c.from_residual-in_err-act.result c.in_err-act.field-0.0
    c.from_residual-in_err-act.ensures found

pub loop-acts-preserved : goal.loop-acts-preserved
loop-acts-preserved c =
    let text = c.args.text.now in
    let was = c.loop-acts in
    let so_far = steps_so_far c.in_ok-header.header (vec_len was.acts) in
    let found = (rw (c.in-Some.is, c.len.ensures) at c.in_ok-act.ensures.line) text in
    let same =
    left_over was.rest.now (ended (act_line c.in-Some.act)) found.0 c.in-Some.left found.1.parts
    found.2 in
    record {
      read = rw (c.in_ok-push.ensures.items, c.in_ok-push.ensures.len, same)
          (read_on steps_form text so_far so_far.known was.acts.items was.rest.now c.in-Some.act found.0
          found.1 tt was.invariant.read);
    }

pub overflow_sub-rest : goal.overflow_sub-rest
overflow_sub-rest c =
    let found = (rw c.in-Some.is at c.in_ok-act.ensures.line) c.args.text.now in
    omega (
      arith,
      shorter c.loop-acts.rest.now (act_line c.in-Some.act) found.0 c.in-Some.left
          found.1.parts found.2,
    )

pub loop-acts-smaller : goal.loop-acts-smaller
loop-acts-smaller c =
    let found = (rw c.in-Some.is at c.in_ok-act.ensures.line) c.args.text.now in
    let same =
    left_over c.loop-acts.rest.now (ended (act_line c.in-Some.act)) found.0 c.in-Some.left
    found.1.parts found.2 in
    rw same (omega (
      arith,
      found.2,
      shorter c.loop-acts.rest.now (act_line c.in-Some.act) found.0
          c.in-Some.left found.1.parts found.2,
    ))

pub returns : goal.returns
returns c =
    (rw (c.in_default.is, c.len.ensures) at c.in_ok-act.ensures.line) c.args.text.now
    c.loop-acts.acts.items c.loop-acts.invariant.read
