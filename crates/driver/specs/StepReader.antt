-- Reading a steps text from a source, one act at a time.
use Rattle.std.specs.Prelude.{ℕ, List, Option}
use Rattle.driver.specs.Below.{Act, Do, step_of, Common, StepsHeader, steps_so_far}
use Rattle.driver.specs.TextReader.{Progress, reader_at}

-- What a reader of steps has: the header, how many acts it has returned, the bytes after them that it holds,
-- and how many places its memory has.
pub record Held : Type 0 where
  pub header : StepsHeader
  pub count : ℕ
  pub bytes : List ℕ
  pub places : ℕ

-- the progress of a reader; `left` is what its source still has
abbrev pub progress : Held → Option (List ℕ) → Progress StepsHeader Act
progress held = reader_at (steps_so_far held.header held.count) held.bytes

-- a common step of a seat as an act
abbrev pub common_act : ℕ × Common → Act
common_act found = Do found.0 (step_of found.1)
