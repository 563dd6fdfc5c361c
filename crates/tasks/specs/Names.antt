-- Why names can't be read.
use Rattle.std.specs.Prelude.{◌≡◌, ℕ, List, Option, Err, IfSome}
use Rattle.picture.specs.Reading.{reading}
use Rattle.streams.specs.declared.stream_fault.StreamFault.TheVariants.{Text, ReadFailed, WriteFailed, Memory as StreamMemory}
use Rattle.tasks.specs.declared.fault.Fault.{Fault}
use Rattle.tasks.specs.declared.fault.Fault.TheVariants.{Usage, BadFrom, BadTo, BadAt, BadRunOption, BadNaming, Memory, Stream, Script, Run}

-- what the source had left
abbrev pub IsFaultOfNames : Option (List ℕ) → Fault → Type 0
IsFaultOfNames left (BadNaming line) = IfSome left (λ text. reading text ≡ Err line)
IsFaultOfNames left (Stream ReadFailed) = Unit {0}
IsFaultOfNames left (Stream StreamMemory) = Unit {0}
IsFaultOfNames left (Stream WriteFailed) = ⊥
IsFaultOfNames left (Stream (Text fault)) = ⊥
IsFaultOfNames left Memory = Unit {0}
IsFaultOfNames left Usage = ⊥
IsFaultOfNames left BadFrom = ⊥
IsFaultOfNames left BadTo = ⊥
IsFaultOfNames left BadAt = ⊥
IsFaultOfNames left (BadRunOption option) = ⊥
IsFaultOfNames left (Script fault) = ⊥
IsFaultOfNames left (Run fault) = ⊥
