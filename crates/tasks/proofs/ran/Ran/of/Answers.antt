use Rattle.std.proofs.Common.{rules, ◌≡◌, Err, subst, sym, IfErr}
use Rattle.std.specs.Arc.{arc_value}
use Rattle.tasks.specs.Ran.{IsFaultOfThreads}
use Rattle.tasks.specs.declared.fault.Fault.TheVariants.{Run}
use Rattle.tasks.proofs.Runners.{fault_of_threads}
use Rattle.tasks.proofs.ran.Ran.of.Goals as goal

pub returns-in_err-report-clause-err : goal.returns-in_err-report-clause-err
returns-in_err-report-clause-err g c =
    let fault : c.from_residual.result ≡ Err (Run c.in_err-report.field-0.0) = search rules in
    subst (λ r. IfErr r (IsFaultOfThreads (arc_value c.args.script).workers)) (sym fault)
    (fault_of_threads (arc_value c.args.script).workers c.in_err-report.field-0.0
    (rw c.deref.ensures at c.in_err-report.ensures.fault))
