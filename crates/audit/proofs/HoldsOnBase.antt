-- What the tables of holds stand for on a good base.
use Rattle.std.proofs.Common.{◌≡◌, ℕ, [], length, get_or, refl, arith}
use Rattle.audit.specs.Below.{Base, based, seat_of, owner, readers, seat_with, total, IsGood, IsInRange}
use Rattle.history.proofs.SmallBases.{few_exclusive, few_held}
use Rattle.audit.specs.declared.holds.Holds.{Holds}
use Rattle.audit.specs.Holds.{HoldsStand}

pub stands_on : (b : Base) (holds : Holds) → IsGood b → IsInRange b.header →
    length holds.exclusive.items ≡ b.header.seats → length holds.shared.items ≡ b.header.seats →
    ((i : ℕ) → get_or holds.exclusive.items i 0 ≡ (seat_of b i).exclusive) →
    ((i : ℕ) → get_or holds.shared.items i 0 ≡ (seat_of b i).shared) →
    holds.owner ≡ seat_with b.header.seats (λ i. (seat_of b i).exclusive) →
    holds.readers ≡ total b.header.seats (λ i. (seat_of b i).shared) → HoldsStand (based b) [] holds
stands_on b holds good range x sh exclusive shared owner readers =
    record {
      exclusive_seats = x;
      shared_seats = sh;
      exclusive = exclusive;
      shared = shared;
      owns = λ l. owner;
      reads = readers;
      exclusive_bound = λ i.
          let few = few_exclusive b b.header.object refl good.held i in
          omega (arith, few);
      shared_bound =
          let few = few_held b good in
          let seats = range.seats in
          omega (arith, few, seats);
    }
