-- A window on the bytes of a source.
use Rattle.std.specs.Prelude.{◌≡◌, ◌≤◌, ◌+◌, ℕ, List, ◌++◌, length, take, Option, None, Some}
use Rattle.history.specs.Text.{HasNoBreak}
use Rattle.streams.specs.declared.limits.TheConstants.{LINE_BYTES}

-- What is ahead begins with bytes of one line, whose first bytes are in the window. The rest is left.
pub record IsFront (ahead window left : List ℕ) : Type 0 where
  pub line : List ℕ
  pub parts : ahead ≡ line ++ left
  pub one_line : HasNoBreak line
  pub seen : window ≡ take LINE_BYTES line

abbrev pub IsFrontAhead : List ℕ → Option (List ℕ) → List ℕ → Option (List ℕ) → Type 0
IsFrontAhead old None window after = Unit {0}
IsFrontAhead old (Some left) window None = ⊥
IsFrontAhead old (Some left) window (Some after) = IsFront (old ++ left) window after

-- at least one byte was read
abbrev pub IsShorter : Option (List ℕ) → Option (List ℕ) → Type 0
IsShorter None after = Unit {0}
IsShorter (Some left) None = ⊥
IsShorter (Some left) (Some after) = length after + 1 ≤ length left
