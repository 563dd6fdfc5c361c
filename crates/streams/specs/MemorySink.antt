-- A sink in memory, as its callers see it.
use Rattle.std.specs.Prelude.{ℕ, List, Option, Bool}

-- the bytes that it has taken, the places that are free, the most that a call takes, how many calls succeed
-- before one fails (none: all do), and whether one has failed
pub record Store : Type 0 where
  pub held : List ℕ
  pub free : ℕ
  pub piece : ℕ
  pub fails_at : Option ℕ
  pub failed : Bool
