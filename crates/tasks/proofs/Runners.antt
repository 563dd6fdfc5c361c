-- What a run of a script's threads returns.
use Rattle.std.proofs.Common.{List}
use Rattle.tasks.specs.Below.{WorkerView, RunFault, GateShut, NotStarted, IsFaultOfRun}
use Rattle.workers.specs.declared.fault.RunFault.TheVariants.{Memory as RunMemory}
use Rattle.tasks.specs.declared.fault.Fault.TheVariants.{Run}
use Rattle.tasks.specs.Ran.{IsFaultOfThreads}
use Rattle.tasks.proofs.OpenGates.{lets, stops_nobody}

-- no gate refuses a call
pub fault_of_threads : (ws : List WorkerView) (fault : RunFault) → IsFaultOfRun lets ws fault →
    IsFaultOfThreads ws (Run fault)
fault_of_threads ws RunMemory is = tt
fault_of_threads ws (NotStarted worker) is = is
fault_of_threads ws (GateShut worker) is = stops_nobody 0 ws worker is
