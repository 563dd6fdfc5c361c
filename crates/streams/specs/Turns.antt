-- Which call of a device in memory fails.
use Rattle.std.specs.Prelude.{ℕ, ◌-◌, Option, None, Some}

-- one call later
abbrev pub one_fewer : Option ℕ → Option ℕ
one_fewer None = None
one_fewer (Some n) = Some (n - 1)
