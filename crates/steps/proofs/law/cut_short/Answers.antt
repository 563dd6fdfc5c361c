use Rattle.streams.proofs.Cuts as cuts
use Rattle.steps.specs.StepsText.{steps_form}
use Rattle.steps.proofs.StepsLawful.{lawful}
use Rattle.steps.proofs.law.cut_short.Goals as goal

pub returns : goal.returns
returns c = cuts.cut_short steps_form lawful
