use Rattle.std.proofs.Common.{◌≡◌, List}
use Rattle.summing.specs.Below.{Entry, Start}
use Rattle.summing.specs.Prelude.{rows_below, HasSummed}
use Rattle.summing.proofs.summing.Summing.rows.Given as goal

-- the rows of the seats passed
abbrev pub invariant-loop-seat : goal.invariant-loop-seat
invariant-loop-seat l = (s : Start) (h : List Entry) → HasSummed s h l.self → l.rows.items ≡ rows_below s h l.seat
