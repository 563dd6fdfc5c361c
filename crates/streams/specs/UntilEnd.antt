-- A source that is read until its end, as its callers see it.
use Rattle.std.specs.Prelude.{Bool}

-- the source below, and whether a read with room has returned 0
pub record Asked (R : Type 0) : Type 0 where
  pub inner : R
  pub is_at_end : Bool
