-- What the run of a script returns.
use Rattle.std.proofs.Common.{ℕ, List, ◌++◌, Option, Ok, Err, ap, subst, IfSome}
use Rattle.std.proofs.lemmas.Option.{IfSome_then}
use Rattle.std.proofs.KnownBytes.{Keeps-refl}
use Rattle.tasks.specs.Below.{last_lines, parts_text, report_text, Reads, ScriptView, RunFault, GateShut, NotStarted, Report, IsListed, IsFaultOfRun}
use Rattle.workers.specs.declared.fault.RunFault.TheVariants.{Memory as RunMemory}
use Rattle.workers.specs.Reports.{IsReport}
use Rattle.workers.specs.declared.unrecorded.Keep.TheVariants.{Count}
use Rattle.tasks.specs.declared.fault.Fault.TheVariants.{Run}
use Rattle.tasks.specs.RunScript.{IsRun, Runs}
use Rattle.tasks.proofs.OpenGates.{lets, stops_nobody}

-- so does a script whose threads aren't run
pub not_run : (left old : Option (List ℕ)) (script : ScriptView) (fault : RunFault) →
    IfSome left (λ text. Reads text (Ok script)) → IsFaultOfRun lets script.workers fault →
    Runs left old old (Err (Run fault))
not_run left old script RunMemory reads is = Keeps-refl old
not_run left old script (NotStarted worker) reads is = (
  IfSome_then left reads (λ text p. record { script = script; reads = p; among = is.0; refused = is.1 }),
  Keeps-refl old,
)
not_run left old script (GateShut worker) reads is = stops_nobody 0 script.workers worker is

-- the run of a script, and what is written of it: no list of answers is asked for
pub has_run : (left : Option (List ℕ)) (script : ScriptView) (report : Report) (Written : List ℕ → Type 0) →
    IfSome left (λ text. Reads text (Ok script)) → IsReport script report → IsListed Count report.listed →
    Written (report_text script.objects report) →
    IfSome left (λ text. IsRun text Written)
has_run left script report Written reads is counted written =
    let objects = script.objects in
    let same = ap (λ l. parts_text objects report.objects.items ++ last_lines objects report.unrecorded l) counted in
    IfSome_then left reads
    (λ text p. record {
      script = script;
      reads = p;
      report = report;
      is = is;
      written = subst Written same written;
    })
