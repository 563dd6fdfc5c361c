use Rattle.std.proofs.Common.{rules, ◌≡◌, Err, subst, sym}
use Rattle.run_text.proofs.Judged.{histories_legal}
use Rattle.std.specs.Io.KnownBytes.{Appends}
use Rattle.streams.specs.Writing.{AppendsFront}
use Rattle.tasks.specs.RunScript.{Runs}
use Rattle.tasks.specs.declared.fault.Fault.TheVariants.{Run}
use Rattle.tasks.proofs.Runs.{has_run, not_run}
use Rattle.tasks.proofs.run_script.run_script.Goals as goal

pub returns-in_err-report-clause-runs : goal.returns-in_err-report-clause-runs
returns-in_err-report-clause-runs g c =
    let fault : c.from_residual-in_err-report.result ≡ Err (Run c.in_err-report.field-0.0) = search rules in
    subst (Runs _ _ _) (sym fault)
    (not_run _ _ c.in_ok-script.script c.in_err-report.field-0.0 c.in_ok-script.ensures.ok
    c.in_err-report.ensures.fault)

pub returns-in-Ok-clause-runs : goal.returns-in-Ok-clause-runs
returns-in-Ok-clause-runs g c =
    let script = c.in_ok-script.script in
    let report = c.in_ok-report.report in (
      c.status_of-status.ensures.legal.1
          (rw c.deref.ensures.value (histories_legal script report c.in_ok-report.ensures.report)),
      has_run _ script report (Appends _ _) c.in_ok-script.ensures.ok c.in_ok-report.ensures.report
          c.in_ok-report.ensures.listed (rw c.in_ok-text.ensures.text at c.in-Ok.ensures.ok),
    )

pub returns-clause-runs : goal.returns-clause-runs
returns-clause-runs g c =
    has_run _ c.in_ok-script.script c.in_ok-report.report (AppendsFront _ _) c.in_ok-script.ensures.ok
    c.in_ok-report.ensures.report c.in_ok-report.ensures.listed (rw c.in_ok-text.ensures.text at c.in-Err.ensures.err)
