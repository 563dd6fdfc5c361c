-- The fault of one thread, and of its calls.
use Rattle.std.specs.Prelude.{◌≡◌, ℕ, List}
use Rattle.serde_json.specs.Data.{Data}
use Rattle.script.specs.Reading.{HasBadCall, HasNoRounds, SaysNoCall}
use Rattle.script.specs.Saying.{StopsAt, SaysCall}
use Rattle.script.specs.Script.{Named}
use Rattle.script.specs.declared.fault.ScriptFault.{ScriptFault}
use Rattle.script.specs.declared.fault.ScriptFault.TheVariants.{BadThread, BadCall, OutOfMemory}

-- the fault of the calls of one thread
abbrev pub IsCallsFault : List Named → ℕ → ℕ → List Data → ScriptFault → Type 0
IsCallsFault objects threads thread values (BadCall t place) =
    (t ≡ thread) × StopsAt (SaysCall objects threads) values place (SaysNoCall objects threads)
IsCallsFault objects threads thread values OutOfMemory = Unit {0}
IsCallsFault objects threads thread values _ = ⊥

-- the fault of one thread
abbrev pub IsThreadFault : List Named → ℕ → ℕ → Data → ScriptFault → Type 0
IsThreadFault objects threads thread value (BadThread t) = (t ≡ thread) × HasNoRounds value
IsThreadFault objects threads thread value (BadCall t place) =
    (t ≡ thread) × HasBadCall objects threads place value
IsThreadFault objects threads thread value OutOfMemory = Unit {0}
IsThreadFault objects threads thread value _ = ⊥
