-- What reading a source to its end may return.
use Rattle.std.specs.Prelude.{◌≡◌, ◌⊎◌, ℕ, ◌+◌, ◌^◌, ◌≤◌, List, length}
use Rattle.streams.specs.declared.stream_fault.StreamFault.{StreamFault}
use Rattle.streams.specs.declared.stream_fault.StreamFault.TheVariants.{Text, ReadFailed, Memory}

-- the faults of reading all
abbrev pub IsOfReading : StreamFault → Type 0
IsOfReading ReadFailed = Unit {0}
IsOfReading Memory = Unit {0}
IsOfReading fault = ⊥

-- what may be returned for a fault: the fault, or after a fault of the text what failed while reading on
abbrev pub IsToldFor : StreamFault → StreamFault → Type 0
IsToldFor (Text fault) told = (told ≡ Text fault) ⊎ IsOfReading told
IsToldFor fault told = told ≡ fault

-- there are more bytes than reads that can be counted
abbrev pub IsTooLong : List ℕ → Type 0
IsTooLong bytes = 2 ^ 64 ≤ length bytes + 1
