use Rattle.std.proofs.Common.{◌≡◌, ℕ, ◌<◌, ◌^◌, List, sym, ap, ◌∙◌, rules, eqb-true}
use Rattle.streams.proofs.UnderWay.{IsEnd, all_read, more_behind}
use Rattle.steps.specs.declared.header.StepsHeader.{StepsHeader}
use Rattle.steps.specs.StepLines.{end_line}
use Rattle.steps.specs.StepsText.{steps_form, steps_so_far}
use Rattle.steps.proofs.next_line.line_by_words.Goals as goal

counted_end : (h : StepsHeader) (count : ℕ) (rest line : List ℕ) →
    (count < 2 ^ 32) × (line ≡ end_line count) →
    IsEnd steps_form (steps_so_far h count) rest line
counted_end h count rest line end text steps read = (rw read.count at end.0, end.1 ∙ ap end_line read.count)

pub returns-then-is_empty-clause-line : goal.returns-then-is_empty-clause-line
returns-then-is_empty-clause-line c = λ text.
    let end =
    counted_end c.args.header.now c.args.count c.args.rest.now c.in-Some.line.now
    (c.is_end.ensures.0 c.if-is_end.true) in
    all_read steps_form text (steps_so_far c.args.header.now c.args.count) c.args.rest.now
    c.in-Some.line.now c.in-Some.after.now c.in-Some.ensures.0 end (eqb-true _ _ (sym c.is_empty.ensures
    ∙ c.if-is_empty.true))

pub returns-then-is_end-clause-line : goal.returns-then-is_end-clause-line
returns-then-is_end-clause-line c = λ text.
    let end =
    counted_end c.args.header.now c.args.count c.args.rest.now c.in-Some.line.now
    (c.is_end.ensures.0 c.if-is_end.true) in
    more_behind steps_form text (steps_so_far c.args.header.now c.args.count) c.args.rest.now
    c.in-Some.line.now c.in-Some.after.now c.in-Some.ensures.0 end (sym c.is_empty.ensures
    ∙ c.if-is_empty.false)

pub returns-in-None-clause-line : goal.returns-in-None-clause-line
returns-in-None-clause-line c = search rules

pub returns-in_default-clause-line : goal.returns-in_default-clause-line
returns-in_default-clause-line c = search rules
