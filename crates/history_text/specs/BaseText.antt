-- The sums of a base whose text was written.
use Rattle.std.specs.Prelude.{◌≡◌, ℕ, ◌+◌, ◌≤◌, List, [], ◌∷◌, ◌++◌}
use Rattle.history_text.specs.Below.{SeatBase, Base, MOST_FOLDED, ended}
use Rattle.history_text.specs.HistoryLines.{head_line, head_of, lines_told}
use Rattle.history_text.specs.Pieces.{lines_text}

-- the number of calls that all seats ended
abbrev pub calls_sum : List SeatBase → ℕ
calls_sum [] = 0
calls_sum (has ∷ rest) = has.calls + calls_sum rest

-- The first line and the lines of a base were written, and these are its sums.
pub record IsHeadPut (b : Base) (old new : List ℕ) (n c : ℕ) : Type 0 where
  pub lines : new ≡ old ++ (ended (head_line (head_of b)) ++ lines_text (lines_told b))
  pub folded : n ≡ b.entries
  pub few : n ≤ MOST_FOLDED
  pub calls : c ≡ calls_sum b.seats
  pub some : c ≤ n
