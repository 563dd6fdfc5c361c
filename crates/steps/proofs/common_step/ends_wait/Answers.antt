use Rattle.std.proofs.Common.{refl, arith}
use Rattle.streams.proofs.AskingOnce.{one_spelt}
use Rattle.steps.proofs.common_step.ends_wait.Goals as goal

pub returns-in_ok-behind-in-None : goal.returns-in_ok-behind-in-None
returns-in_ok-behind-in-None c =
    (omega arith, rw one_spelt (c.in_ok-behind-in-None.field-0.now, c.in_ok-behind-in-None.ensures, refl))
