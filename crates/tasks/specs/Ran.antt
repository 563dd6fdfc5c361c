-- A script, what a run of its threads left, and what is written of it.
use Rattle.std.specs.Prelude.{◌≡◌, ◌<◌, ℕ, List, Option, Result, Ok, Err, length}
use Rattle.std.specs.Io.KnownBytes.{Appends, Keeps}
use Rattle.tasks.specs.Below.{report_text, ScriptView, WorkerView, Text, ReadFailed, WriteFailed, Memory as StreamMemory, AppendsFront, GateShut, NotStarted, Report, WasRefused}
use Rattle.tasks.specs.declared.fault.Fault.{Fault}
use Rattle.tasks.specs.declared.fault.Fault.TheVariants.{Usage, BadFrom, BadTo, BadAt, BadRunOption, BadNaming, Memory, Stream, Script, Run}
use Rattle.workers.specs.declared.fault.RunFault.TheVariants.{Memory as RunMemory}

pub record RanView : Type 0 where
  pub script : ScriptView
  pub report : Report

-- why the threads of these workers were not run: no gate refuses a call
abbrev pub IsFaultOfThreads : List WorkerView → Fault → Type 0
IsFaultOfThreads ws (Run RunMemory) = Unit {0}
IsFaultOfThreads ws (Run (NotStarted worker)) = (worker < length ws) × WasRefused worker
IsFaultOfThreads ws (Run (GateShut worker)) = ⊥
IsFaultOfThreads ws (Stream fault) = ⊥
IsFaultOfThreads ws (Script fault) = ⊥
IsFaultOfThreads ws Usage = ⊥
IsFaultOfThreads ws BadFrom = ⊥
IsFaultOfThreads ws BadTo = ⊥
IsFaultOfThreads ws BadAt = ⊥
IsFaultOfThreads ws (BadRunOption option) = ⊥
IsFaultOfThreads ws (BadNaming line) = ⊥
IsFaultOfThreads ws Memory = ⊥

-- the text of what a run left
abbrev pub text_of_run : RanView → List ℕ
text_of_run ran = report_text ran.script.objects ran.report

-- what is written of a run; what the sink held before and holds after
abbrev pub WritesRan : RanView → Option (List ℕ) → Option (List ℕ) → Result ℕ Fault → Type 0
WritesRan ran old new (Ok status) = (status ≡ 0) × Appends old new (text_of_run ran)
WritesRan ran old new (Err (Stream WriteFailed)) = AppendsFront old new (text_of_run ran)
WritesRan ran old new (Err (Stream StreamMemory)) = Keeps old new
WritesRan ran old new (Err (Stream ReadFailed)) = ⊥
WritesRan ran old new (Err (Stream (Text fault))) = ⊥
WritesRan ran old new (Err Memory) = ⊥
WritesRan ran old new (Err (Script fault)) = ⊥
WritesRan ran old new (Err (Run fault)) = ⊥
WritesRan ran old new (Err Usage) = ⊥
WritesRan ran old new (Err BadFrom) = ⊥
WritesRan ran old new (Err BadTo) = ⊥
WritesRan ran old new (Err BadAt) = ⊥
WritesRan ran old new (Err (BadRunOption option)) = ⊥
WritesRan ran old new (Err (BadNaming line)) = ⊥
