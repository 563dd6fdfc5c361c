-- Which replies tell an interrupt.
use Rattle.std.specs.Prelude.{Bool, true, false, ◌||◌, Result, Ok, Err}
use Rattle.monitor.specs.Below.{End, Entry, Word, Fault}
use Rattle.history.specs.declared.entry.End.TheVariants as end
use Rattle.history.specs.declared.entry.Word.TheVariants as word
use Rattle.history.specs.declared.fault.Fault.TheVariants as fault

abbrev pub refuses_interrupted : Word → Bool
refuses_interrupted (word.Refused fault.Interrupted) = true
refuses_interrupted _ = false

abbrev pub ends_interrupted : End → Bool
ends_interrupted end.Interrupt = true
ends_interrupted _ = false

-- a refusal at the entry, or the end of a wait
abbrev pub tells_interrupt : Result Entry Fault → Bool
tells_interrupt (Ok e) = refuses_interrupted e.word || ends_interrupted e.end
tells_interrupt (Err f) = false
