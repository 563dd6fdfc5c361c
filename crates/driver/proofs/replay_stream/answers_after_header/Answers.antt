use Rattle.std.proofs.Common.{ap, sym, ◌∙◌}
use Rattle.driver.specs.Below.{steps_form, steps_so_far, StepsHeader}
use Rattle.driver.proofs.ReadingAhead.{no_further}
use Rattle.driver.proofs.replay_stream.answers_after_header.Goals as goal

pub answered-requires-clause-hooks : goal.answered-requires-clause-hooks
answered-requires-clause-hooks g c = c.open.ensures.opened c.args.steps.now.header.header.seats

pub answered-requires-in-Semaphore-clause-hooks : goal.answered-requires-in-Semaphore-clause-hooks
answered-requires-in-Semaphore-clause-hooks g c =
    c.open-in-Semaphore.ensures.opened c.args.steps.now.header.header.seats

pub answered-requires-in-Latch-clause-hooks : goal.answered-requires-in-Latch-clause-hooks
answered-requires-in-Latch-clause-hooks g c =
    c.open-in-Latch.ensures.opened c.args.steps.now.header.header.seats

pub answered-requires-clause-object : goal.answered-requires-clause-object
answered-requires-clause-object g c =
    c.open.ensures.object ∙ sym c.in-Lock.is
    ∙ ap (λ (k : StepsHeader). k.header.object) c.header.ensures.value

pub returns-in-Err-clause-err : goal.returns-in-Err-clause-err
returns-in-Err-clause-err g c = λ text items were.
    let steps = c.args.steps.now in
    no_further steps_form text (steps_so_far steps.header steps.count) steps.bytes
    (g.R.Source.left c.args.reader.now) items c.header.ensures.held were
