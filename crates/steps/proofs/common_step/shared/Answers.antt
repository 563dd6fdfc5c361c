use Rattle.std.proofs.Common.{refl, arith}
use Rattle.streams.proofs.AskingOnce.{one_spelt}
use Rattle.steps.proofs.common_step.shared.Goals as goal

pub returns-in-Some : goal.returns-in-Some
returns-in-Some c = (omega arith, rw one_spelt (c.in-Some.rest.now, c.in-Some.ensures, refl))

pub returns-in_ok-behind-in-None : goal.returns-in_ok-behind-in-None
returns-in_ok-behind-in-None c =
    (omega arith, rw one_spelt (c.in_ok-behind-in-None.field-0.now, c.in_ok-behind-in-None.ensures, refl))
