-- What is said of a text.
use Rattle.std.specs.Prelude.{◌≡◌, ◌≢◌, ◌≤◌, ◌+◌, ◌==◌, ◌||◌, Bool, false, if◌then◌else◌, ℕ, List, [], ◌∷◌, codes, Err, Ok, length, MatchOption, None, Option, Some, unwrap_or}
use Rattle.std.specs.List.{slice_split, starts_with}
use Rattle.frame.specs.declared.acts.Act.{Act}
use Rattle.history.specs.declared.entry.Entry.{Entry}
use Rattle.history.specs.Base.{Base}
use Rattle.history_text.specs.HistoryText.{IsHistoryText, history_form}
use Rattle.streams.specs.declared.fault.TextFault.{TextFault}
use Rattle.streams.specs.declared.fault.TextFault.TheVariants.{BadHeader, BadLine, CutShort}
use Rattle.streams.specs.Form.{Form}
use Rattle.streams.specs.Reading.{IsReading, IsText}
use Rattle.script.specs.declared.fault.ScriptFault.{ScriptFault}
use Rattle.script.specs.declared.fault.ScriptFault.TheVariants.{NotJson, OutOfMemory}
use Rattle.script.specs.Reading.{Reads}
use Rattle.script.specs.Script.{ScriptView}
use Rattle.steps.specs.StepsText.{steps_form}
use Rattle.steps.specs.declared.header.StepsHeader.{StepsHeader}
use Rattle.fault_places.specs.declared.report.Kind.{Kind}
use Rattle.fault_places.specs.declared.report.Kind.TheVariants as kind
use Rattle.fault_places.specs.declared.report.Report.{Report}
use Rattle.fault_places.specs.declared.report.Report.TheVariants.{History, Right, Wrong}
use Rattle.fault_places.specs.declared.wrong.Part.{Part}
use Rattle.fault_places.specs.declared.wrong.Part.TheVariants.{Line, Script}
use Rattle.fault_places.specs.declared.wrong.Said.{Said}
use Rattle.fault_places.specs.declared.wrong.Wrong.{Wrong as WrongText}

-- ---- which text it is

abbrev pub begins_with : List ℕ → List ℕ → Bool
begins_with = starts_with (λ a b. a == b)

-- a byte that may stand between the parts of a JSON text
abbrev pub is_blank : ℕ → Bool
is_blank b = (b == 32) || ((b == 10) || ((b == 13) || (b == 9)))

-- whether the first byte that is no blank begins a JSON object
abbrev pub begins_script : List ℕ → Bool
begins_script [] = false
begins_script (b ∷ bs) = if is_blank b then begins_script bs else b == 123

-- a text is of this kind by its beginning
abbrev pub kind_of : List ℕ → Kind
kind_of text =
    if begins_with text (codes "aqs-steps") then kind.Steps
    else if begins_with text (codes "aqs-history") then kind.History
    else if begins_script text then kind.Script
    else kind.Other

-- ---- where it is wrong

-- this is the number of the line that has a fault; a text that is cut short has it in its last line
abbrev pub IsLineOf : List ℕ → TextFault → ℕ → Type 0
IsLineOf text BadHeader number = number ≡ 1
IsLineOf text (BadLine bad) number = number ≡ bad
IsLineOf text CutShort number = number ≡ length (slice_split (λ b. b == 10) text)

-- a column that is told is within so many bytes and their end
abbrev pub IsWithin : ℕ → Said → Type 0
IsWithin bytes said = (1 ≤ unwrap_or said.column 1) × (unwrap_or said.column 1 ≤ bytes + 1)

-- the line of this number is told, in a text of so many bytes
abbrev pub IsAt : ℕ → ℕ → WrongText → Type 0
IsAt number bytes wrong = (wrong.part ≡ Line number) × IsWithin bytes wrong.said

-- the line that has the first fault of the text is told
abbrev pub IsWrongIn : {H I : Type 0} → Form H I → List ℕ → WrongText → Type 0
IsWrongIn form text wrong =
    (fault : TextFault) × (number : ℕ) × IsReading form text (Err fault) × IsLineOf text fault number
    × IsAt number (length text) wrong

-- the part of a script that has this fault; of one that is no JSON it may be a line
abbrev pub IsPartOf : ScriptFault → Part → Type 0
IsPartOf fault (Line line) = fault ≡ NotJson
IsPartOf fault (Script other member) = other ≡ fault

-- ---- what is said

-- a text of a kind is right, or wrong there
abbrev pub IsReportOf : Kind → List ℕ → Option WrongText → Type 0
IsReportOf kind.Steps text found =
    MatchOption found ((h : StepsHeader) × (acts : List Act) × IsText steps_form text h acts) (IsWrongIn steps_form text)
IsReportOf kind.History text found =
    MatchOption found ((b : Base) × (entries : List Entry) × IsHistoryText text b entries) (IsWrongIn history_form text)
IsReportOf kind.Script text found =
    MatchOption found ((script : ScriptView) × Reads text (Ok script))
    (λ wrong. (fault : ScriptFault) × (fault ≢ OutOfMemory) × Reads text (Err fault) × IsPartOf fault wrong.part)
IsReportOf kind.Other text found = MatchOption found ⊥ (IsAt 1 (length text))

abbrev pub IsReport : List ℕ → Report → Type 0
IsReport text History = IsReportOf kind.History text None
IsReport text (Right it) = (it ≢ kind.History) × (it ≡ kind_of text) × IsReportOf it text None
IsReport text (Wrong wrong) = IsReportOf (kind_of text) text (Some wrong)
