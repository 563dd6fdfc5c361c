-- A window on the bytes of a source.
use Rattle.std.specs.Prelude.{◌≡◌, ◌+◌, ℕ, List, ◌++◌, length, take, Option, None, Some}
use Rattle.std.specs.Io.KnownBytes.{Consumes}
use Rattle.history.specs.Text.{HasNoBreak}
use Rattle.streams.specs.declared.limits.TheConstants.{LINE_BYTES}
use Rattle.streams.specs.declared.limits.TheConstants.{ROOM}

-- The bytes in the window, how many dropped bytes are before them, and how many places its memory has.
pub record Seen : Type 0 where
  pub bytes : List ℕ
  pub passed : ℕ
  pub places : ℕ

-- how many places a window has
abbrev pub room : ℕ
room = ROOM

-- A read returned n bytes, which follow those that were in the window.
pub record Grows (old new : List ℕ) (left after : Option (List ℕ)) (n : ℕ) : Type 0 where
  pub more : List ℕ
  pub consumed : Consumes left after more
  pub behind : new ≡ old ++ more
  pub count : length more ≡ n

-- What is ahead begins with bytes of one line, whose first bytes are in the window. What follows the line is
-- there or is left.
pub record IsAhead (ahead window left : List ℕ) : Type 0 where
  pub line : List ℕ
  pub rest : List ℕ
  pub parts : ahead ≡ line ++ (rest ++ left)
  pub one_line : HasNoBreak line
  pub seen : window ≡ take LINE_BYTES line ++ rest

-- the bytes in the window and left after it stay, if they are known, except for bytes of a long line
abbrev pub StaysAhead : List ℕ → Option (List ℕ) → List ℕ → Option (List ℕ) → Type 0
StaysAhead old None window after = Unit {0}
StaysAhead old (Some left) window None = ⊥
StaysAhead old (Some left) window (Some after) = IsAhead (old ++ left) window after
