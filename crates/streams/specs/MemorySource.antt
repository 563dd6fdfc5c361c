-- A source in memory, as its callers see it.
use Rattle.std.specs.Prelude.{ℕ, List, Option, Bool}

-- the bytes that it still has, the most that a call gives, how many calls succeed before one fails (none: all
-- do), and whether one has failed
pub record Supply : Type 0 where
  pub left : List ℕ
  pub piece : ℕ
  pub fails_at : Option ℕ
  pub failed : Bool
