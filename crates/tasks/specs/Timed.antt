-- What a run for a limited time leaves.
use Rattle.std.specs.Prelude.{◌≡◌, ℕ, IsSomeAnd, List, Option, length}
use Rattle.tasks.specs.Below.{ScriptView, WorkerView, IsListed}
use Rattle.run_text.specs.StandingText.{IsStandingText}
use Rattle.tasks.specs.declared.fault.Fault.{Fault}
use Rattle.tasks.specs.declared.fault.Fault.TheVariants.{Usage, BadFrom, BadTo, BadAt, BadRunOption, BadNaming, Memory, Stream, Script, Run}
use Rattle.tasks.specs.declared.timed.Timed.{Timed}
use Rattle.tasks.specs.declared.timed.Timed.TheVariants.{Ended, Late}
use Rattle.tasks.specs.Ran.{IsFaultOfThreads}
use Rattle.workers.specs.declared.standing.Standing.{Standing}
use Rattle.workers.specs.declared.unrecorded.Keep.{Keep}

-- what its threads left, or if there is a limit the text of how each of them stood
abbrev pub IsTimed : Option ℕ → Keep → ScriptView → Timed → Type 0
IsTimed limit keep s (Ended ran) = (ran.script ≡ s) × IsListed keep ran.report.listed
IsTimed limit keep s (Late text) = IsSomeAnd limit (λ ms.
    (ts : List Standing) × (length ts ≡ length s.workers) × IsStandingText ms s ts text.items)

-- as without a limit, or memory lacks for the text
abbrev pub IsFaultOfTimed : List WorkerView → Fault → Type 0
IsFaultOfTimed ws Memory = Unit {0}
IsFaultOfTimed ws (Run fault) = IsFaultOfThreads ws (Run fault)
IsFaultOfTimed ws (Stream fault) = ⊥
IsFaultOfTimed ws (Script fault) = ⊥
IsFaultOfTimed ws Usage = ⊥
IsFaultOfTimed ws BadFrom = ⊥
IsFaultOfTimed ws BadTo = ⊥
IsFaultOfTimed ws BadAt = ⊥
IsFaultOfTimed ws (BadRunOption option) = ⊥
IsFaultOfTimed ws (BadNaming line) = ⊥
