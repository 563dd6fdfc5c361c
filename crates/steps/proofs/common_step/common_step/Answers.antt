use Rattle.std.proofs.Common.{rules, refl, sym, ◌∙◌, arith}
use Rattle.std.proofs.lemmas.List.{take_rest}
use Rattle.steps.specs.CommonSteps.{step_of}
use Rattle.steps.proofs.Lines.{behind_seat}
use Rattle.steps.proofs.common_step.common_step.Goals as goal

pub returns : goal.returns
returns c =
    let ahead = c.in_ok-common.ensures in (
      (search (rules, arith), ahead.0),
      (
        ahead.1.0,
        behind_seat c.args.text.now _ _ ahead.1.0 (c.in_ok-seat.seat, step_of c.in_ok-common.common)
            c.in_ok-seat.ensures.seat refl (sym (take_rest c.args.text.now c.in_ok-seat.at) ∙ ahead.1.1),
        ahead.1.2,
      ),
    )
