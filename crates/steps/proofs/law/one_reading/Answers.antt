use Rattle.streams.proofs.OneReading.{one}
use Rattle.steps.specs.StepsText.{steps_form}
use Rattle.steps.proofs.StepsLawful.{lawful}
use Rattle.steps.proofs.law.one_reading.Goals as goal

pub returns : goal.returns
returns c = one steps_form lawful
