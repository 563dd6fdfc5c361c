use Rattle.std.proofs.Common.{Ok, Err, refl, sym, subst}
use Rattle.frame.specs.Prelude.{IsDone, Answered}
use Rattle.frame.proofs.acts.perform.Goals as goal

pub returns-in-Ok-clause-done : goal.returns-in-Ok-clause-done
returns-in-Ok-clause-done g c =
    subst (λ act. IsDone c.args.core.now act (Ok (Answered c.in-Ok.answer)) c.step.new.self) (sym c.in-Do.is)
    (Ok c.in-Ok.answer, refl, c.in-Ok.ensures.answered, c.in-Ok.ensures.told)

pub returns-in-Err-clause-done : goal.returns-in-Err-clause-done
returns-in-Err-clause-done g c =
    subst (λ act. IsDone c.args.core.now act (Err c.in-Err.fault) c.step.new.self) (sym c.in-Do.is)
    (Err c.in-Err.fault, refl, c.in-Err.ensures.answered, c.in-Err.ensures.told)
