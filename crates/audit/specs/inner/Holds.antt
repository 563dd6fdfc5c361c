-- The owner, and how an entry changes who it is.
use Rattle.std.specs.Prelude.{◌≡◌, ◌≢◌, ℕ, ◌<◌, List, Option, Some, None, nat_lt, if◌then◌else◌}
use Rattle.audit.specs.Below.{Entry, X, is_seat, held, Start}

-- a seat that has exclusive holds is the only one
abbrev pub IsOnlyOwner : Start → List Entry → Type 0
IsOnlyOwner s h = (i j : ℕ) → 0 < held s h i X → i ≢ j → held s h j X ≡ 0

-- the owner after a seat has `has` exclusive holds
abbrev pub owner_after : Option ℕ → ℕ → ℕ → Option ℕ
owner_after owner i has = if nat_lt 0 has then Some i else if is_seat owner i then None else owner
