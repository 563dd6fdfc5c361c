-- What a speller of rising numbers keeps.
use Rattle.std.specs.Prelude.{ℕ}

-- the number without its last two digits
pub record Kept : Type 0 where
  pub hundreds : ℕ
