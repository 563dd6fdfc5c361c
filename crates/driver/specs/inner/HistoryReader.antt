-- What a reader of entries has after each step.
use Rattle.std.specs.Prelude.{◌-◌, ℕ, List, [], drop, length, Option, IfSome}
use Rattle.driver.specs.Below.{Entry, history_form, behind, StreamFault}
use Rattle.driver.specs.TextReader.{IsFaultOf}
use Rattle.driver.specs.HistoryReader.{EntriesHeld, EntriesRead}

-- the reader after one more entry, with `left` bytes after it
abbrev pub entry_passed : Entry → ℕ → EntriesHeld → EntriesHeld
entry_passed e left held =
    record {
      header = held.header;
      base = held.base;
      place = behind held.place e;
      bytes = drop (length held.bytes - left) held.bytes;
      places = held.places;
    }

-- P holds for each text whose header and base were read, and no entry yet
abbrev pub OfHistory : EntriesHeld → Option (List ℕ) → (List ℕ → Type 0) → Type 0
OfHistory held left P = (text : Option (List ℕ)) → EntriesRead text held left [] → IfSome text P

-- the faults after that, whatever the text
abbrev pub IsFaultAfterBase : EntriesHeld → Option (List ℕ) → Option (List ℕ) → StreamFault → Type 0
IsFaultAfterBase held left after fault =
    (text : Option (List ℕ)) → EntriesRead text held left [] → IsFaultOf history_form text after fault
