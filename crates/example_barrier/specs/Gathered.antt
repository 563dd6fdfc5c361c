-- What contracts see of a gathering.
use Rattle.std.specs.Prelude.{◌≡◌, ◌==◌, ◌+◌, ℕ, Bool, false}

pub record Gathered : Type 0 where
  -- its number, which is another when the next gathering begins
  pub number : ℕ
  -- how many threads have arrived, of how many
  pub arrived : ℕ
  pub parties : ℕ

-- Whether the next thread to arrive is the last.
abbrev pub lacks_one : Gathered → Bool
lacks_one g = g.arrived + 1 == g.parties
