-- What a step of a pass leaves.
use Rattle.std.specs.Prelude.{ℕ, Option, None, Result, Ok, Err}
use Rattle.monitor.specs.Below.{Entry, Fault, OutOfPhase, Answer, Recorded, Sleep}
use Rattle.monitor.specs.declared.step.Now.{Now}
use Rattle.monitor.specs.declared.step.Now.TheVariants.{Done}

abbrev pub now_of : Result Answer Fault → Result Now Fault
now_of (Ok answer) = Ok (Done answer)
now_of (Err fault) = Err fault

-- the seat that an answer names, if it names one
abbrev pub named_in : Result Answer Fault → Option ℕ
named_in (Ok (Recorded e named)) = named
named_in (Ok Sleep) = None
named_in (Err fault) = None

-- the entry that it recorded, or its fault
abbrev pub entry_in : Result Answer Fault → Result Entry Fault
entry_in (Ok (Recorded e named)) = Ok e
entry_in (Ok Sleep) = Err OutOfPhase
entry_in (Err fault) = Err fault
