-- A base that is read line by line: how the base and the sums determine the lines that were read.
use Rattle.std.specs.Prelude.{◌≡◌, ℕ, zero, suc, List, [], ◌∷◌, ◌++◌, length, map, take}
use Rattle.history_text.specs.Below.{Base, IsInRange}
use Rattle.history_text.specs.declared.base_line.BaseLine.{BaseLine}
use Rattle.history_text.specs.declared.base_line.BaseLine.TheVariants.{Stands}
use Rattle.history_text.specs.BaseLines.{first_line, seat_lines, sleeper_lines}
use Rattle.history_text.specs.BaseRules.{BaseSums}
use Rattle.history_text.specs.BaseTelling.{Follow, base_by, sums_of}

-- the lines of a base, as far as they were read
abbrev pub lines_so_far : BaseSums → Base → List BaseLine
lines_so_far t b =
    first_line b.header.object b
    ∷ (seat_lines 0 (take t.seats b.seats) ++ (map Stands b.line ++ sleeper_lines 0 b.sleepers))

abbrev pub lines_by : ℕ → BaseSums → Base → List BaseLine
lines_by zero t b = []
lines_by (suc n) t b = lines_so_far t b

abbrev pub lines_read : BaseSums → Base → List BaseLine
lines_read t b = lines_by t.entries t b

-- The lines were read in this order, and each could follow those before it.
pub record IsUnderWay (t : BaseSums) (b : Base) (lines : ℕ) : Type 0 where
  pub range : IsInRange b.header
  pub follow : Follow b.header (lines_read t b)
  pub base : base_by b.header (lines_read t b) ≡ b
  pub told : sums_of (lines_read t b) ≡ t
  pub count : length (lines_read t b) ≡ lines
