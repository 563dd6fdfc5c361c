-- What explaining a text writes and returns.
use Rattle.std.specs.Prelude.{◌≡◌, ◌⊎◌, ℕ, List, [], ◌∷◌, ◌++◌, codes, Option, Some, Result, Ok, Err, IfSome}
use Rattle.std.specs.Io.KnownBytes.{Appends, Keeps}
use Rattle.fault_places.specs.Reports.{IsReport}
use Rattle.fault_places.specs.declared.report.Report.{Report}
use Rattle.fault_places.specs.declared.report.Report.TheVariants.{History, Right, Wrong}
use Rattle.driver.specs.declared.notation.Notation.{Notation}
use Rattle.driver.specs.declared.notation.Notation.TheVariants.{Lines, Json}
use Rattle.tasks.specs.Below.{ReadFailed, WriteFailed, Memory as StreamMemory, AppendsFront}
use Rattle.tasks.specs.declared.fault.Fault.{Fault}
use Rattle.tasks.specs.declared.fault.Fault.TheVariants.{Memory, Stream}
use Rattle.tasks.specs.declared.task.Task.TheVariants.{Explain}
use Rattle.tasks.specs.Perform.{Performs}

-- these bytes are written and this status is returned, or writing fails
abbrev pub Says : ℕ → List ℕ → Option (List ℕ) → Option (List ℕ) → Result ℕ Fault → Type 0
Says wanted told old new (Ok status) = (status ≡ wanted) × Appends old new told
Says wanted told old new (Err fault) = (fault ≡ Stream WriteFailed) × AppendsFront old new told

-- what a report on a text leads to
abbrev pub Answers : Option ℕ → Notation → List ℕ → Report → Option (List ℕ) → Option (List ℕ) → Result ℕ Fault → Type 0
Answers at notation text History old new result = Performs (Explain at notation) (Some text) old new result
Answers at notation text (Right kind) old new result = (told : List ℕ) × Says 0 told old new result
Answers at notation text (Wrong wrong) old new result = (told : List ℕ) × Says 1 told old new result

-- the text was not read to its end, or an allocation failed
abbrev pub IsUnread : Result ℕ Fault → Type 0
IsUnread result =
    (result ≡ Err (Stream ReadFailed)) ⊎ ((result ≡ Err (Stream StreamMemory)) ⊎ (result ≡ Err Memory))

-- The source's bytes, and what the sink held before and holds after.
abbrev pub ExplainsText : Option ℕ → Notation → Option (List ℕ) → Option (List ℕ) → Option (List ℕ) →
    Result ℕ Fault → Type 0
ExplainsText at notation left old new result =
    (IsUnread result × Keeps old new)
    ⊎ IfSome left (λ text. (report : Report) × IsReport text report × Answers at notation text report old new result)

-- what is said of a file that can't be read
abbrev pub unread_text : List ℕ → List ℕ → List ℕ
unread_text name reason = codes "cannot read " ++ (name ++ (codes ": " ++ (reason ++ 10 ∷ [])))

-- which is written in lines; an object is some text
abbrev pub IsUnreadTold : Notation → List ℕ → List ℕ → List ℕ → Type 0
IsUnreadTold Lines name reason told = told ≡ unread_text name reason
IsUnreadTold Json name reason told = Unit {0}

-- this is said of a file, unless an allocation failed
abbrev pub TellsUnread : Notation → List ℕ → List ℕ → Option (List ℕ) → Option (List ℕ) → Result ℕ Fault → Type 0
TellsUnread notation name reason old new result =
    ((result ≡ Err Memory) × Keeps old new)
    ⊎ ((told : List ℕ) × IsUnreadTold notation name reason told × Says 1 told old new result)
