-- The state of a seat after a history, as a number for each kind of bar.
use Rattle.std.specs.Prelude.{ℕ, zero, suc, Bool, if◌then◌else◌, List, [], ◌∷◌, ◌++◌, map}
use Rattle.drawing.specs.Below.{Entry, X, S, Header, held, line, place_of, is_placed, sleepers, has, Start}
use Rattle.drawing.specs.declared.kind.Kind.{Kind}
use Rattle.drawing.specs.declared.kind.Kind.TheVariants.{Exclusive, Shared, InLine, Asleep}

abbrev pub one_if : Bool → ℕ
one_if b = if b then 1 else 0

-- The level of a seat after a history. For holds it is their number. For the queue, or for a condition, it is
-- 1 if the seat waits there, and 0 if not.
abbrev pub level : Start → List Entry → ℕ → Kind → ℕ
level s h i Exclusive = held s h i X
level s h i Shared = held s h i S
level s h i InLine = one_if (is_placed (place_of i (line s h)))
level s h i (Asleep c) = one_if (has i (sleepers s h c))

-- A seat and a kind: a picture has bars for each such pair.
pub record Track : Type 0 where
  pub seat : ℕ
  pub kind : Kind

abbrev pub track : ℕ → Kind → Track
track i kind = record { seat = i; kind = kind }

abbrev pub level_of : Start → List Entry → Track → ℕ
level_of s h t = level s h t.seat t.kind

-- the kinds of the first n conditions
abbrev pub asleep_kinds : ℕ → List Kind
asleep_kinds zero = []
asleep_kinds (suc c) = asleep_kinds c ++ Asleep c ∷ []

abbrev pub kinds : ℕ → List Kind
kinds conditions = Exclusive ∷ Shared ∷ InLine ∷ asleep_kinds conditions

abbrev pub tracks_of_seat : ℕ → ℕ → List Track
tracks_of_seat conditions i = map (track i) (kinds conditions)

abbrev pub tracks_below : ℕ → ℕ → List Track
tracks_below conditions zero = []
tracks_below conditions (suc i) = tracks_below conditions i ++ tracks_of_seat conditions i

-- all tracks of an object, seat by seat
abbrev pub tracks : Header → List Track
tracks k = tracks_below k.conditions k.seats
