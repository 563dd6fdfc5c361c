-- What only contracts of private functions cite.
use Rattle.std.specs.Prelude.{ℕ, Bool, true, false, List, Option, Some, None}
use Rattle.std.specs.Borrow.{Bor}
use Rattle.picture.specs.declared.naming.whom.Whom.{Whom}
use Rattle.picture.specs.Names.{Given}

-- names that are borrowed from a text
abbrev pub borrowed : Option (Bor (List ℕ)) → Option (List ℕ)
borrowed None = None
borrowed (Some name) = Some name.now

abbrev pub pointed : Option (Whom × Bor (List ℕ)) → Option (Whom × List ℕ)
pointed None = None
pointed (Some naming) = Some (naming.0, naming.1.now)

abbrev pub given_if : Bool → Given → Option Given
given_if true given = Some given
given_if false given = None
