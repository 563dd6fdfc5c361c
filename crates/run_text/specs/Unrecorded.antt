-- The lines of answers that no history records.
use Rattle.std.specs.Prelude.{ℕ, List, ◌++◌, codes, decimal, map}
use Rattle.std.specs.List.{concat}
use Rattle.run_text.specs.Below.{fault_name, line_of, Named, Unrecorded}
use Rattle.run_text.specs.Lines.{call_words}

-- the thread, the number of its call, the fault, and the call
abbrev pub answer_line : List Named → Unrecorded → List ℕ
answer_line objects a =
    codes "thread " ++ decimal a.thread ++ codes " call " ++ decimal a.number ++ codes " " ++ fault_name a.fault
    ++ codes " " ++ line_of (call_words objects a.call) ++ codes "\n"

abbrev pub answer_lines : List Named → List Unrecorded → List ℕ
answer_lines objects answers = concat (map (answer_line objects) answers)
