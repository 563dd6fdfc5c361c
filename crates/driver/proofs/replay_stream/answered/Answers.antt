use Rattle.steps.specs.StepsText.{steps_form, steps_so_far}
use Rattle.driver.proofs.ReadingAhead.{no_further}
use Rattle.driver.proofs.replay_stream.answered.Goals as goal

pub returns-in_default-clause-err : goal.returns-in_default-clause-err
returns-in_default-clause-err g c = λ text items were.
    let steps = c.args.steps.now in
    no_further steps_form text (steps_so_far steps.header steps.count) steps.bytes
    (g.R.Source.left c.args.reader.now) items c.header-text.ensures.held were
