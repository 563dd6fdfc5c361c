-- A scripted parking as contracts see it.
use Rattle.std.specs.Prelude.{ℕ, List}
use Rattle.permit.specs.declared.parking.Woke.{Woke}

-- the results that it was opened with, and how many calls it records
pub record Script : Type 0 where
  pub answers : List Woke
  pub places : ℕ
