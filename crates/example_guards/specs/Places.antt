-- The places of a journal, and a queue over it.
use Rattle.std.specs.Prelude.{◌≡◌, ◌+◌, ℕ, suc, List, [], ◌∷◌, length}
use Rattle.boxcar.specs.Table.{Shelves, Shows, Where}

-- these receipts are of the places from this one on, in order
abbrev pub AreNext : Shelves → ℕ → List (Where ℕ) → Type 0
AreNext table place [] = Unit {0}
AreNext table place (r ∷ rs) = (r.index ≡ place) × Shows table r × AreNext table (suc place) rs

-- What was taken is the beginning of what was put, and what waits is the rest, in order. The book has how much was taken.
pub record IsInOrder (table : Shelves) (waiting : List (Where ℕ)) (taken put booked : ℕ) : Type 0 where
  pub rest : AreNext table taken waiting
  pub all : taken + length waiting ≡ put
  pub counted : booked ≡ taken

-- The item that was put at this place is the one that was taken there, of the first two.
abbrev pub IsTaken : ℕ → ℕ → ℕ × ℕ → Type 0
IsTaken item place taken = (place ≡ 0 → taken.0 ≡ item) × (place ≡ 1 → taken.1 ≡ item)
