-- A naming tells the seat that is named.
use Rattle.std.proofs.Common.{◌≡◌, ℕ, Bool, true, false, not, ◌&&◌, cond, eqb, Option, Some, None, refl}
use Rattle.explaining.specs.Below.{Arrival, could, is_seat, Counts, named_by, ready_by}
use Rattle.explaining.specs.declared.naming.Naming.TheVariants.{Own, CouldBefore, Named}
use Rattle.explaining.specs.Naming.{naming_by, seat_named}

by_tests : (own before : Bool) (j : ℕ) →
    seat_named (cond own (Own j) (cond before (CouldBefore j) (Named j)))
    ≡ cond (not own && not before) (Some j) None
by_tests true before j = refl
by_tests false true j = refl
by_tests false false j = refl

by_could : (goes : Bool) (before : Option ℕ) (a : Arrival) (i : ℕ) →
    seat_named (naming_by before (Some a) (cond goes (Some a.seat) None) i)
    ≡ named_by before (cond goes (Some a.seat) None) i
by_could true before a i = by_tests (eqb a.seat i) (is_seat before a.seat) a.seat
by_could false before a i = refl

pub told_is_named : (k : Counts) (before : Option ℕ) (first : Option Arrival) (i : ℕ) →
    seat_named (naming_by before first (ready_by k first) i) ≡ named_by before (ready_by k first) i
told_is_named k before None i = refl
told_is_named k before (Some a) i = by_could (could k a.seat a.mode a.n) before a i
