-- What a reader of acts has after one more, and what it has read after many.
use Rattle.std.specs.Prelude.{◌+◌, ◌-◌, ◌++◌, ℕ, List, Option, drop, length}
use Rattle.driver.specs.Below.{Act, StepsHeader, steps_form}
use Rattle.driver.specs.StepReader.{Held}
use Rattle.driver.specs.TextReader.{Progress, WereRead}

-- the reader after one more act, with `left` bytes after it
abbrev pub passed : ℕ → Held → Held
passed left held =
    record {
      header = held.header;
      count = held.count + 1;
      bytes = drop (length held.bytes - left) held.bytes;
      places = held.places;
    }

-- from some items on, these were read
abbrev pub ReadMore : Progress StepsHeader Act → List Act → Progress StepsHeader Act → Type 0
ReadMore first more now =
    (text : Option (List ℕ)) (items : List Act) → WereRead steps_form text first items →
    WereRead steps_form text now (items ++ more)
