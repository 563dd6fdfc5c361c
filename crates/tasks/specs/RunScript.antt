-- What the run of a script reads, writes and returns.
use Rattle.std.specs.Prelude.{◌≡◌, ◌<◌, ℕ, List, Option, Result, Ok, Err, IfSome, length}
use Rattle.std.specs.Io.KnownBytes.{Appends, IsAtEnd, Keeps}
use Rattle.tasks.specs.Below.{run_text, IsFault, Reads, ScriptView, Text, ReadFailed, WriteFailed, Memory as StreamMemory, AppendsFront, GateShut, NotStarted, WasRefused, Report}
use Rattle.tasks.specs.declared.fault.Fault.{Fault}
use Rattle.tasks.specs.declared.fault.Fault.TheVariants.{Usage, BadFrom, BadTo, BadAt, BadRunOption, BadNaming, Memory, Stream, Script, Run}
use Rattle.workers.specs.declared.fault.RunFault.TheVariants.{Memory as RunMemory}
use Rattle.workers.specs.Reports.{IsReport}

-- The text is that of a script, a run of it has this report, and this is written for the report.
pub record IsRun (text : List ℕ) (Written : List ℕ → Type 0) : Type 0 where
  pub script : ScriptView
  pub reads : Reads text (Ok script)
  pub report : Report
  pub is : IsReport script report
  pub written : Written (run_text script.objects report.objects.items report.unrecorded)

-- The text is that of a script, which has this worker, and the system refused a thread.
pub record HasWorker (text : List ℕ) (worker : ℕ) : Type 0 where
  pub script : ScriptView
  pub reads : Reads text (Ok script)
  pub among : worker < length script.workers
  pub refused : WasRefused worker

-- The source's bytes, and what the sink held before and holds after. No gate refuses a call.
abbrev pub Runs : Option (List ℕ) → Option (List ℕ) → Option (List ℕ) → Result ℕ Fault → Type 0
Runs left old new (Ok status) = (status ≡ 0) × IfSome left (λ text. IsRun text (Appends old new))
Runs left old new (Err (Stream WriteFailed)) = IfSome left (λ text. IsRun text (AppendsFront old new))
Runs left old new (Err (Stream ReadFailed)) = Keeps old new
Runs left old new (Err (Stream StreamMemory)) = Keeps old new
Runs left old new (Err (Stream (Text fault))) = ⊥
Runs left old new (Err (Script fault)) = IfSome left (λ text. IsFault text fault) × Keeps old new
Runs left old new (Err (Run (NotStarted worker))) =
    IfSome left (λ text. HasWorker text worker) × Keeps old new
Runs left old new (Err (Run RunMemory)) = Keeps old new
Runs left old new (Err (Run (GateShut worker))) = ⊥
Runs left old new (Err Usage) = ⊥
Runs left old new (Err BadFrom) = ⊥
Runs left old new (Err BadTo) = ⊥
Runs left old new (Err BadAt) = ⊥
Runs left old new (Err (BadRunOption option)) = ⊥
Runs left old new (Err (BadNaming line)) = ⊥
Runs left old new (Err Memory) = Keeps old new

-- a script was read to its end, unless reading failed or an allocation for its text did
abbrev pub IsReadOut : {T : Type 0} → Result T Fault → Option (List ℕ) → Type 0
IsReadOut (Ok done) left = IsAtEnd left
IsReadOut (Err (Stream WriteFailed)) left = IsAtEnd left
IsReadOut (Err (Script fault)) left = IsAtEnd left
IsReadOut (Err (Run fault)) left = IsAtEnd left
IsReadOut (Err fault) left = Unit {0}

-- why a script can't be read
abbrev pub IsFaultOfScript : Option (List ℕ) → Fault → Type 0
IsFaultOfScript left (Script fault) = IfSome left (λ text. IsFault text fault)
IsFaultOfScript left (Stream ReadFailed) = Unit {0}
IsFaultOfScript left (Stream StreamMemory) = Unit {0}
IsFaultOfScript left (Stream WriteFailed) = ⊥
IsFaultOfScript left (Stream (Text fault)) = ⊥
IsFaultOfScript left (Run fault) = ⊥
IsFaultOfScript left Usage = ⊥
IsFaultOfScript left BadFrom = ⊥
IsFaultOfScript left BadTo = ⊥
IsFaultOfScript left BadAt = ⊥
IsFaultOfScript left (BadRunOption option) = ⊥
IsFaultOfScript left (BadNaming line) = ⊥
IsFaultOfScript left Memory = ⊥
