-- The number and the name of each fault, and which are recorded.
use Rattle.std.specs.Prelude.{ℕ, ◌≤◌, List, codes}
use Rattle.history.specs.Types.{Fault, NotOwner, TooManyHolds, TooManyPermits, Interrupted, HoldsRead, OutOfPhase, NoSuchCondition, BadAmount, WrongMode, HistoryFull, OutOfMemory, TrimFull}

abbrev pub fault_number : Fault → ℕ
fault_number NotOwner = 1
fault_number TooManyHolds = 2
fault_number TooManyPermits = 3
fault_number Interrupted = 4
fault_number HoldsRead = 5
fault_number OutOfPhase = 6
fault_number NoSuchCondition = 7
fault_number BadAmount = 8
fault_number WrongMode = 9
fault_number HistoryFull = 10
fault_number OutOfMemory = 11
fault_number TrimFull = 12

-- the first five are recorded
abbrev pub IsRecorded : Fault → Type 0
IsRecorded fault = fault_number fault ≤ 5

abbrev pub fault_name : Fault → List ℕ
fault_name NotOwner = codes "NotOwner"
fault_name TooManyHolds = codes "TooManyHolds"
fault_name TooManyPermits = codes "TooManyPermits"
fault_name Interrupted = codes "Interrupted"
fault_name HoldsRead = codes "HoldsRead"
fault_name OutOfPhase = codes "OutOfPhase"
fault_name NoSuchCondition = codes "NoSuchCondition"
fault_name BadAmount = codes "BadAmount"
fault_name WrongMode = codes "WrongMode"
fault_name HistoryFull = codes "HistoryFull"
fault_name OutOfMemory = codes "OutOfMemory"
fault_name TrimFull = codes "TrimFull"
