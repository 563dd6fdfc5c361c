-- Names that were given.
use Rattle.std.specs.Prelude.{ℕ, ◌==◌, Bool, true, false, ◌||◌, if◌then◌else◌, List, [], ◌∷◌}
use Rattle.picture.specs.declared.naming.whom.Whom.{Whom}
use Rattle.picture.specs.declared.naming.whom.Whom.TheVariants.{Seat, Condition}

-- to whom, and which name, in the order of the lines
abbrev pub Given : Type 0
Given = List (Whom × List ℕ)

abbrev pub is_same : Whom → Whom → Bool
is_same (Seat i) (Seat j) = i == j
is_same (Seat i) (Condition c) = false
is_same (Condition c) (Seat i) = false
is_same (Condition c) (Condition d) = c == d

abbrev pub is_seat : Whom → Bool
is_seat (Seat i) = true
is_seat (Condition c) = false

-- the name of a seat or a condition; no bytes if it was given none
abbrev pub name_of : Given → Whom → List ℕ
name_of [] whom = []
name_of (x ∷ xs) whom = if is_same x.0 whom then x.1 else name_of xs whom

-- a seat was given a name
abbrev pub names_a_seat : Given → Bool
names_a_seat [] = false
names_a_seat (x ∷ xs) = is_seat x.0 || names_a_seat xs
