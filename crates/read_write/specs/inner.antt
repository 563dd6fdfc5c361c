-- What only contracts of private functions cite: no promise of the crate rests on it.
use Rattle.std.specs.Prelude.{ℕ, ◌==◌, nat_lt, Bool, ◌&&◌, if◌then◌else◌, Option}
use Rattle.read_write.specs.Below.{Mode, X, S, MOST_READ_WRITE_HOLDS, is_seat, is_none_or, holds_of}

-- what a seat can acquire
abbrev pub could_by : Option ℕ → ℕ → ℕ → ℕ → Mode → Bool
could_by o writes readers i X =
    if is_seat o i then nat_lt (holds_of o writes i) MOST_READ_WRITE_HOLDS else is_none_or o i && (readers == 0)
could_by o writes readers i S = is_none_or o i && nat_lt readers MOST_READ_WRITE_HOLDS
