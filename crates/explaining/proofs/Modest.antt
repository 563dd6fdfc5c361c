-- The test of a base's permits.
use Rattle.std.proofs.Common.{◌≡◌, ℕ, zero, suc, ◌*◌, ◌≤◌, Bool, true, ◌&&◌, leb, leb-true, List, [], ◌∷◌, get_or, arith}
use Rattle.std.specs.List.{list_all}
use Rattle.std.proofs.lemmas.Bool.{and_parts}
use Rattle.explaining.specs.Below.{SeatBase, S, Object, Lock, ReadWrite, Semaphore, Latch, MOST_AMOUNT, Base, based, nothing, held, IsModest, is_semaphore}
use Rattle.explaining.specs.State.{few_permits, fits_fold, is_modest_of}

each_few : (most : ℕ) (seats : List SeatBase) (i : ℕ) → few_permits most seats ≡ true →
    (get_or seats i nothing).shared ≤ most
each_few most [] i t = omega arith
each_few most (x ∷ seats) zero t = leb-true x.shared most (and_parts (leb x.shared most) _ t).0
each_few most (x ∷ seats) (suc i) t = each_few most seats i (and_parts (leb x.shared most) _ t).1

modest_by : (o : Object) (b : Base) → is_modest_of o b ≡ true → is_semaphore o ≡ true →
    (b.unheld ≤ MOST_AMOUNT * b.entries) × ((i : ℕ) → held (based b) [] i S ≤ MOST_AMOUNT * b.entries)
modest_by (Semaphore policy permits) b t semaphore =
    let parts = and_parts (leb b.unheld (MOST_AMOUNT * b.entries)) _ t in
    (leb-true _ _ parts.0, λ i. each_few (MOST_AMOUNT * b.entries) b.seats i parts.1)
modest_by (Lock policy) b t semaphore = absurd (cc)
modest_by (ReadWrite policy) b t semaphore = absurd (cc)
modest_by (Latch opening) b t semaphore = absurd (cc)

pub is_modest : (b : Base) (n : ℕ) → fits_fold b n ≡ true → IsModest b
is_modest b n t = modest_by b.header.object b (and_parts (is_modest_of b.header.object b) _ t).0
