-- What the program does for a task, and its exit status.
use Rattle.std.specs.Prelude.{◌≡◌, ℕ, List, [], Option, Result, Ok, Err}
use Rattle.std.specs.Io.KnownBytes.{IsAtEnd}
use Rattle.tasks.specs.Below.{Verdict, Legal, NotLegal, HistoryReadOut, StepsReadOut, WritesReplay, WritesTold, Given, StreamFault}
use Rattle.driver.specs.declared.telling.Telling.TheVariants as telling
use Rattle.tasks.specs.declared.task.Task.{Task}
use Rattle.tasks.specs.declared.task.Task.TheVariants.{Replay, Audit, Draw, Explain, Page, Summary}
use Rattle.tasks.specs.declared.fault.Fault.{Fault}
use Rattle.tasks.specs.declared.fault.Fault.TheVariants.{Usage, BadFrom, BadTo, BadAt, BadRunOption, BadNaming, Memory, Stream, Script, Run}

-- a history that isn't legal ends the program with status 1
abbrev pub status_for : Verdict → ℕ
status_for Legal = 0
status_for (NotLegal number) = 1

-- what a stream leaves that judges a history, and the program's exit status for it
abbrev pub Judges : (Result Verdict StreamFault → Type 0) → Result ℕ Fault → Type 0
Judges Leaves (Ok status) = (verdict : Verdict) × (status ≡ status_for verdict) × Leaves (Ok verdict)
Judges Leaves (Err (Stream fault)) = Leaves (Err fault)
Judges Leaves (Err Usage) = ⊥
Judges Leaves (Err BadFrom) = ⊥
Judges Leaves (Err BadTo) = ⊥
Judges Leaves (Err BadAt) = ⊥
Judges Leaves (Err (BadRunOption option)) = ⊥
Judges Leaves (Err (BadNaming line)) = ⊥
Judges Leaves (Err Memory) = ⊥
Judges Leaves (Err (Script fault)) = ⊥
Judges Leaves (Err (Run fault)) = ⊥

-- The names that were given, the source's bytes, and what the sink held before and holds after.
abbrev pub PerformsWith : Given → Task → Option (List ℕ) → Option (List ℕ) → Option (List ℕ) →
    Result ℕ Fault → Type 0
PerformsWith names (Replay form) left old new (Ok status) = (status ≡ 0) × WritesReplay form left old new (Ok tt)
PerformsWith names (Replay form) left old new (Err (Stream fault)) = WritesReplay form left old new (Err fault)
PerformsWith names (Replay form) left old new (Err Usage) = ⊥
PerformsWith names (Replay form) left old new (Err BadFrom) = ⊥
PerformsWith names (Replay form) left old new (Err BadTo) = ⊥
PerformsWith names (Replay form) left old new (Err BadAt) = ⊥
PerformsWith names (Replay form) left old new (Err (BadRunOption option)) = ⊥
PerformsWith names (Replay form) left old new (Err (BadNaming line)) = ⊥
PerformsWith names (Replay form) left old new (Err Memory) = ⊥
PerformsWith names (Replay form) left old new (Err (Script fault)) = ⊥
PerformsWith names (Replay form) left old new (Err (Run fault)) = ⊥
PerformsWith names (Audit notation) left old new result =
    Judges (WritesTold (telling.Audit notation) left old new) result
PerformsWith names (Draw choice) left old new result = Judges (WritesTold (telling.Draw choice) left old new) result
PerformsWith names (Page choice) left old new result = Judges (WritesTold (telling.Page choice) left old new) result
PerformsWith names (Explain at notation) left old new result =
    Judges (WritesTold (telling.Explain at notation) left old new) result
PerformsWith names (Summary notation) left old new result =
    Judges (WritesTold (telling.Summary notation) left old new) result

-- the same, if no names were given
abbrev pub Performs : Task → Option (List ℕ) → Option (List ℕ) → Option (List ℕ) → Result ℕ Fault → Type 0
Performs = PerformsWith []

-- how far a history is read to tell of it
abbrev pub IsHistoryRead : Option (List ℕ) → Result ℕ Fault → Option (List ℕ) → Type 0
IsHistoryRead text (Ok status) left = IsAtEnd left
IsHistoryRead text (Err (Stream fault)) left = HistoryReadOut text (Err fault) left
IsHistoryRead text (Err Usage) left = ⊥
IsHistoryRead text (Err BadFrom) left = ⊥
IsHistoryRead text (Err BadTo) left = ⊥
IsHistoryRead text (Err BadAt) left = ⊥
IsHistoryRead text (Err (BadRunOption option)) left = ⊥
IsHistoryRead text (Err (BadNaming line)) left = ⊥
IsHistoryRead text (Err Memory) left = ⊥
IsHistoryRead text (Err (Script fault)) left = ⊥
IsHistoryRead text (Err (Run fault)) left = ⊥

-- How far a task reads: as its stream does. The arguments are what the source had left and what it has left.
abbrev pub IsReadOutFor : Task → Option (List ℕ) → Result ℕ Fault → Option (List ℕ) → Type 0
IsReadOutFor (Replay form) text (Ok status) left = IsAtEnd left
IsReadOutFor (Replay form) text (Err (Stream fault)) left = StepsReadOut text (Err fault) left
IsReadOutFor (Replay form) text (Err Usage) left = ⊥
IsReadOutFor (Replay form) text (Err BadFrom) left = ⊥
IsReadOutFor (Replay form) text (Err BadTo) left = ⊥
IsReadOutFor (Replay form) text (Err BadAt) left = ⊥
IsReadOutFor (Replay form) text (Err (BadRunOption option)) left = ⊥
IsReadOutFor (Replay form) text (Err (BadNaming line)) left = ⊥
IsReadOutFor (Replay form) text (Err Memory) left = ⊥
IsReadOutFor (Replay form) text (Err (Script fault)) left = ⊥
IsReadOutFor (Replay form) text (Err (Run fault)) left = ⊥
IsReadOutFor (Audit notation) text result left = IsHistoryRead text result left
IsReadOutFor (Draw choice) text result left = IsHistoryRead text result left
IsReadOutFor (Page choice) text result left = IsHistoryRead text result left
IsReadOutFor (Explain at notation) text result left = IsHistoryRead text result left
IsReadOutFor (Summary notation) text result left = IsHistoryRead text result left
