-- The exit statuses of faults.
use Rattle.std.specs.Prelude.{ℕ}
use Rattle.tasks.specs.Below.{ScriptFault, NotJson, BadTop, BadObject, BadThread, BadCall, OutOfMemory, RunFault}
use Rattle.tasks.specs.declared.fault.Fault.{Fault}
use Rattle.tasks.specs.declared.fault.Fault.TheVariants.{Usage, BadFrom, BadTo, BadAt, BadRunOption, BadNaming, Memory, Stream, Script, Run}
use Rattle.tasks.specs.StreamFault.{stream_status}
use Rattle.workers.specs.declared.fault.RunFault.TheVariants as run

-- 3 for a script, 5 for memory
abbrev pub script_status : ScriptFault → ℕ
script_status NotJson = 3
script_status BadTop = 3
script_status (BadObject object) = 3
script_status (BadThread thread) = 3
script_status (BadCall thread call) = 3
script_status OutOfMemory = 5

-- 4 for a thread, 5 for memory
abbrev pub run_status : RunFault → ℕ
run_status run.Memory = 5
run_status (run.GateShut worker) = 4
run_status (run.NotStarted worker) = 4

-- 2 for the command line, 3 for a text
abbrev pub status_of : Fault → ℕ
status_of Usage = 2
status_of BadFrom = 2
status_of BadTo = 2
status_of BadAt = 2
status_of (BadRunOption option) = 2
status_of (BadNaming line) = 3
status_of Memory = 5
status_of (Stream fault) = stream_status fault
status_of (Script fault) = script_status fault
status_of (Run fault) = run_status fault
