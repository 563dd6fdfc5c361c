use Rattle.std.proofs.Common.{rules, ◌≡◌, Err, subst, sym, IfErr}
use Rattle.std.specs.Arc.{arc_value}
use Rattle.workers.specs.Gates.{IsFaultOfRun}
use Rattle.workers.specs.Within.{RunningView, lets}
use Rattle.tasks.specs.Timed.{IsFaultOfTimed}
use Rattle.tasks.specs.declared.fault.Fault.TheVariants.{Run}
use Rattle.tasks.proofs.Runners.{fault_of_threads}
use Rattle.tasks.proofs.timed.run_within.Goals as goal

pub returns-in_err-run-clause-err : goal.returns-in_err-run-clause-err
returns-in_err-run-clause-err g c =
    let fault : c.from_residual.result ≡ Err (Run c.in_err-run.field-0.0) = search rules in
    subst (λ r. IfErr r (IsFaultOfTimed (arc_value c.args.script).workers)) (sym fault)
    (fault_of_threads (arc_value c.args.script).workers c.in_err-run.field-0.0 c.in_err-run.ensures.fault)

pub returns-in_err-report-clause-err : goal.returns-in_err-report-clause-err
returns-in_err-report-clause-err g c =
    let fault : c.from_residual-in_err-report.result ≡ Err (Run c.in_err-report.field-0.0) = search rules in
    subst (λ r. IfErr r (IsFaultOfTimed (arc_value c.args.script).workers)) (sym fault)
    (fault_of_threads (arc_value c.args.script).workers c.in_err-report.field-0.0
    (subst (λ (x : RunningView). IsFaultOfRun lets x.script.workers c.in_err-report.field-0.0)
    c.in_ok-run.ensures.runs c.in_err-report.ensures.fault))
