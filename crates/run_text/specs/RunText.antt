-- The text of a run.
use Rattle.std.specs.Prelude.{ℕ, List, [], ◌∷◌, ◌++◌, codes, Option, None, Some, Result, Ok, Err}
use Rattle.std.specs.Io.KnownBytes.{Appends, Keeps}
use Rattle.std.specs.Global.{Vec}
use Rattle.run_text.specs.Below.{verdict_of, audit_text, number_line, Base, base_on, ended, history_text, Named, StreamFault, Text, ReadFailed, WriteFailed, Memory, AppendsFront, ObjectReport, Report, Unrecorded}
use Rattle.run_text.specs.Unrecorded.{answer_lines}

-- the base that the object's folded entries left
abbrev pub base_of : ObjectReport → Base
base_of part = base_on part.header part.history

abbrev pub name_line : List ℕ → List ℕ
name_line name = codes "object " ++ name

-- the merged share of an object's passes
abbrev pub shares_line : ℕ → List ℕ
shares_line share = number_line (codes "shares ") share

-- how many results no history records
abbrev pub unrecorded_line : ℕ → List ℕ
unrecorded_line count = number_line (codes "unrecorded ") count

-- the text of one object: its name, its history text, the audit's lines, and its share
abbrev pub part_text : List ℕ → ObjectReport → List ℕ
part_text name part =
    ended (name_line name)
    ++ history_text (base_of part) part.history.entries
    ++ audit_text (base_of part) part.history.entries (verdict_of part.judgement)
    ++ ended (shares_line part.share)

-- the history text of one object
abbrev pub history_of : ObjectReport → List ℕ
history_of part = history_text (base_of part) part.history.entries

-- what is written of it, or why it is not; what the sink held before and holds after
abbrev pub WritesHistory : ObjectReport → Option (List ℕ) → Option (List ℕ) → Result (Unit {0}) StreamFault →
    Type 0
WritesHistory part old new (Ok done) = Appends old new (history_of part)
WritesHistory part old new (Err WriteFailed) = AppendsFront old new (history_of part)
WritesHistory part old new (Err Memory) = Keeps old new
WritesHistory part old new (Err ReadFailed) = ⊥
WritesHistory part old new (Err (Text fault)) = ⊥

-- the texts of objects, in order
abbrev pub parts_text : List Named → List ObjectReport → List ℕ
parts_text objects [] = []
parts_text [] (part ∷ parts) = []
parts_text (o ∷ objects) (part ∷ parts) = part_text o.0 part ++ parts_text objects parts

abbrev pub run_text : List Named → List ObjectReport → ℕ → List ℕ
run_text objects parts unrecorded = parts_text objects parts ++ ended (unrecorded_line unrecorded)

-- the line of how many answers no history records, and if they are listed a line for each
abbrev pub last_lines : List Named → ℕ → Option (Vec Unrecorded) → List ℕ
last_lines objects count None = ended (unrecorded_line count)
last_lines objects count (Some list) = ended (unrecorded_line count) ++ answer_lines objects list.items

-- the run text, and the lines of the answers that are listed
abbrev pub report_text : List Named → Report → List ℕ
report_text objects report =
    parts_text objects report.objects.items ++ last_lines objects report.unrecorded report.listed
