-- The replay text: a line for the answer to each step, and for each trim.
use Rattle.std.specs.Prelude.{ℕ, ◌+◌, List, [], ◌∷◌, ◌++◌, Some, None, Result, Ok, Err, codes, decimal, length}
use Rattle.driver.specs.Below.{Act, Do, Trim, Done, Answered, Trimmed, Outcome, outcome, Fault, Answer, Recorded, Sleep, IsSpelt, based, opening_base, fault_name, calls, part_of, ended, entry_line, counts_line, StepsHeader}
use Rattle.steps.specs.declared.header.Format.{Format}
use Rattle.steps.specs.declared.header.Format.TheVariants.{One, Two}

-- the replay text has the format of the steps text
abbrev pub name_of : Format → List ℕ
name_of One = codes "aqs-replay 1 "
name_of Two = codes "aqs-replay 2 "

abbrev pub header_line : StepsHeader → List ℕ
header_line h = name_of h.format ++ part_of h.header

-- the line of an answer to a seat, if `number` entries are before it
abbrev pub answer_line : ℕ → ℕ → Result Answer Fault → List ℕ
answer_line number seat (Ok (Recorded e None)) = entry_line number e
answer_line number seat (Ok (Recorded e (Some named))) =
    entry_line number e ++ codes " wakes " ++ decimal named
answer_line number seat (Ok Sleep) = codes "- " ++ decimal seat ++ codes " sleep"
answer_line number seat (Err fault) = codes "- " ++ decimal seat ++ codes " " ++ fault_name fault

-- an answer that has a line
abbrev pub HasLine : Result Answer Fault → Type 0
HasLine (Ok (Recorded e named)) = IsSpelt e
HasLine r = Unit {0}

-- the line of a trim: how many entries it folded, or its fault
abbrev pub trim_line : Result ℕ Fault → List ℕ
trim_line (Ok count) = codes "- trim " ++ decimal count
trim_line (Err fault) = codes "- " ++ fault_name fault

-- The line of an act, if `number` entries are before it. No step returns a count, and no trim an answer.
abbrev pub done_line : ℕ → Act → Result Done Fault → List ℕ
done_line number (Do seat step) (Ok (Answered answer)) = answer_line number seat (Ok answer)
done_line number (Do seat step) (Err fault) = answer_line number seat (Err fault)
done_line number Trim (Ok (Trimmed count)) = trim_line (Ok count)
done_line number Trim (Err fault) = trim_line (Err fault)
done_line number act r = []

-- how many entries an answer adds
abbrev pub entries_of : Result Answer Fault → ℕ
entries_of (Ok (Recorded e named)) = 1
entries_of r = 0

-- a trim adds none, so the numbers continue after it
abbrev pub entries_done : Result Done Fault → ℕ
entries_done (Ok (Answered answer)) = entries_of (Ok answer)
entries_done r = 0

-- a line for each act, from an entry number on
abbrev pub done_lines : ℕ → List Act → List (Result Done Fault) → List ℕ
done_lines number [] done = []
done_lines number (act ∷ acts) [] = []
done_lines number (act ∷ acts) (r ∷ done) =
    ended (done_line number act r) ++ done_lines (number + entries_done r) acts done

-- the state and the results after these acts, from the object as opened
abbrev pub behind_acts : StepsHeader → List Act → Outcome
behind_acts h acts = outcome (opening_base h.header) [] acts

-- the end line has the number of all entries, also the folded ones, and of those that end a call
abbrev pub end_line : Outcome → List ℕ
end_line o = counts_line (o.base.entries + length o.entries) (calls (based o.base) o.entries)

abbrev pub replay_text : StepsHeader → List Act → List ℕ
replay_text h acts =
    ended (header_line h)
    ++ (done_lines 0 acts (behind_acts h acts).done ++ ended (end_line (behind_acts h acts)))

-- ---- what was told so far

-- lines, and how many entries they tell
pub record Told : Type 0 where
  pub lines : List ℕ
  pub count : ℕ

abbrev pub told_more : Told → List ℕ → ℕ → Told
told_more told line entries = record { lines = told.lines ++ line; count = told.count + entries }
