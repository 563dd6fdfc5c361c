use Rattle.steps.proofs.ShortSteps.{short}
use Rattle.steps.proofs.law.lines_are_short.Goals as goal

pub returns : goal.returns
returns c = short
