use Rattle.std.proofs.Common.{ap, sym, ◌∙◌}
use Rattle.history.specs.declared.header.Header.{Header}
use Rattle.deciding.specs.Checks.{refused_as}
use Rattle.deciding.proofs.InPhase.{entry_refused}
use Rattle.deciding.proofs.decide.entry_for.Goals as goal

pub returns-in-Some : goal.returns-in-Some
returns-in-Some g c s h st =
    sym (entry_refused s h _ _ _
    (ap (λ (k : Header). refused_as k c.args.step) (sym (c.header.ensures s h st))
    ∙ sym c.refused_as.ensures ∙ c.in-Some.is))
