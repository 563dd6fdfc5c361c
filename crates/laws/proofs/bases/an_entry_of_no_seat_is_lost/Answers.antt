use Rattle.std.proofs.Common.{refl}
use Rattle.history.specs.declared.entry.Mode.TheVariants.{X}
use Rattle.history.specs.declared.step.Step.TheVariants as step
use Rattle.laws.proofs.bases.an_entry_of_no_seat_is_lost.Goals as goal

pub returns : goal.returns
returns c = record { legal = ((step.Acquire X 1, refl), tt); call = refl; lost = refl }
