-- The first fault of a step, and what a step makes in its seat's phase.
use Rattle.std.specs.Prelude.{if◌then◌else◌, Option, Some, None}
use Rattle.deciding.specs.Below.{Fault, WrongMode, NoSuchCondition, BadAmount, Header, Step, is_wrong_mode, is_no_condition, is_bad_amount}

-- the fault of a step that the object doesn't have
abbrev pub refused_as : Header → Step → Option Fault
refused_as k step =
    if is_wrong_mode k.object step then Some WrongMode
    else if is_no_condition k step then Some NoSuchCondition
    else if is_bad_amount k.object step then Some BadAmount
    else None
