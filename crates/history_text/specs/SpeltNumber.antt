-- What a number with its spelling is.
use Rattle.std.specs.Prelude.{ℕ}

pub record Spelt : Type 0 where
  pub number : ℕ
