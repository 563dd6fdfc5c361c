-- A run of a script, and what it leaves.
use Rattle.std.specs.Prelude.{◌≡◌, ℕ, Bool, true, Result, All, IfErr, IfOk}
use Rattle.script.specs.Script.{ScriptView}
use Rattle.workers.specs.declared.fault.RunFault.{RunFault}
use Rattle.workers.specs.declared.report.Report.{Report}
use Rattle.workers.specs.declared.unrecorded.Keep.{Keep}
use Rattle.workers.specs.Gates.{IsFaultOfRun}
use Rattle.workers.specs.Reports.{IsListed, IsReport, IsSound}

-- what is run, and whether the answers that no history records are listed
pub record RunningView : Type 0 where
  pub script : ScriptView
  pub keep : Keep

-- the gate lets each call through
abbrev pub lets : ℕ → ℕ → Bool → Type 0
lets worker call answer = answer ≡ true

-- the report of a run of the script
abbrev pub IsReportOf : ScriptView → Keep → Report → Type 0
IsReportOf s keep report = IsReport s report × IsListed keep report.listed × All IsSound report.objects.items

-- what a run of the script leaves when it ends
abbrev pub IsEnd : ScriptView → Keep → Result Report RunFault → Type 0
IsEnd s keep done = IfOk done (IsReportOf s keep) × IfErr done (IsFaultOfRun lets s.workers)
