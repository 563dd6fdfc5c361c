use Rattle.std.proofs.Common.{IfOk, [], sym, subst}
use Rattle.driver.specs.Below.{Start, HasJudged}
use Rattle.history.proofs.OpeningBase.{based_opening}
use Rattle.driver.proofs.judged.auditor_on.Goals as goal

pub returns-in-None-clause-judged : goal.returns-in-None-clause-judged
returns-in-None-clause-judged c =
    let J : Start → Type 0 = λ s. IfOk c.open.result (HasJudged s []) in
    rw c.in-None.is (subst J (sym (based_opening c.args.header.now)) c.open.ensures.judged)
