-- Exclusive holds of an object with one owner: who it is, and how many it has.
use Rattle.std.specs.Prelude.{◌≡◌, ℕ, ◌<◌, ◌==◌, nat_lt, nat_le, Bool, true, ◌&&◌, if◌then◌else◌, Option, Some, None}
use Rattle.frame.specs.Below.{X, is_seat, Counts}

-- the exclusive holds of a seat
abbrev pub holds_of : Option ℕ → ℕ → ℕ → ℕ
holds_of owner holds i = if is_seat owner i then holds else 0

-- the owner is one of the first n seats
abbrev pub owner_in : ℕ → Option ℕ → Type 0
owner_in seats None = Unit {0}
owner_in seats (Some i) = i < seats

abbrev pub is_owner_in : ℕ → Option ℕ → Bool
is_owner_in seats None = true
is_owner_in seats (Some i) = nat_lt i seats

-- an owner has at least one hold and at most `most`; without an owner there is none
abbrev pub is_owned : ℕ → Option ℕ → ℕ → Bool
is_owned most None holds = holds == 0
is_owned most (Some i) holds = nat_lt 0 holds && nat_le holds most

-- The exclusive holds of the counts are those of an owner.
pub record Owns (o : Option ℕ) (holds : ℕ) (k : Counts) : Type 0 where
  pub held : (i : ℕ) → k.held i X ≡ holds_of o holds i
  pub seat : owner_in k.seats o
