use Rattle.std.proofs.Common.{◌∷◌}
use Rattle.explaining.specs.Below.{counts, first_of, line, ready}
use Rattle.explaining.proofs.NamedSeats.{told_is_named}
use Rattle.explaining.proofs.laws.a_naming_tells_who_is_named.Goals as goal

pub returns : goal.returns
returns c s h e = told_is_named (counts s (e ∷ h)) (ready s h) (first_of (line s (e ∷ h))) e.seat
