use Rattle.laws.proofs.OnBases.{entry_after_fold, named_after_fold}
use Rattle.laws.proofs.bases.a_step_goes_on_from_a_base.Goals as goal

pub returns : goal.returns
returns c = record { entry = entry_after_fold; named = named_after_fold }
