use Rattle.std.proofs.Common.{rules}
use Rattle.steps.specs.StepsText.{steps_form}
use Rattle.driver.specs.StepReader.{progress}
use Rattle.driver.proofs.Ending.{fault_of, memory_left}
use Rattle.driver.proofs.replay_stream.answers_to.Goals as goal

pub returns-in_err-steps-clause-err : goal.returns-in_err-steps-clause-err
returns-in_err-steps-clause-err g c = search rules

pub returns-in_err-steps-clause-failing : goal.returns-in_err-steps-clause-failing
returns-in_err-steps-clause-failing g c = search rules

pub returns-clause-err : goal.returns-clause-err
returns-clause-err g c =
    fault_of steps_form (g.R.Source.left c.args.reader.now)
    (progress c.in_ok-steps.steps (g.R.Source.left c.open.new.reader))
    (g.R.Source.left c.answers_after_header.new.reader) c.answers_after_header.result c.in_ok-steps.ensures.ok
    c.answers_after_header.ensures.err

pub returns-clause-memory : goal.returns-clause-memory
returns-clause-memory g c =
    memory_left steps_form (g.R.Source.left c.args.reader.now)
    (progress c.in_ok-steps.steps (g.R.Source.left c.open.new.reader))
    (g.R.Source.left c.answers_after_header.new.reader) c.answers_after_header.result c.in_ok-steps.ensures.ok
    c.answers_after_header.ensures.memory
