use Rattle.std.proofs.Common.{IfOk, [], Option, sym, subst}
use Rattle.audit.specs.Below.{Base, based, or_opening, Start}
use Rattle.history.proofs.OpeningBase.{based_opening}
use Rattle.audit.specs.Auditor.{HasJudged}
use Rattle.audit.proofs.verdict.begun.Goals as goal

pub returns-in-None-clause-judged : goal.returns-in-None-clause-judged
returns-in-None-clause-judged c =
    let k = c.args.header.now in
    let J : Start → Type 0 = λ s. IfOk c.open.result (HasJudged s []) in
    let O : Option Base → Type 0 = λ o. J (based (or_opening k o)) in
    subst O c.in-None.ensures (subst J (sym (based_opening k)) c.open.ensures.judged)
