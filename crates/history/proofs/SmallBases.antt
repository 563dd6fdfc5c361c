-- The numbers of a good base are small.
use Rattle.std.proofs.Common.{◌≡◌, ℕ, zero, suc, ◌*◌, ◌<◌, ◌≤◌, refl, ap, arith}
use Rattle.history.specs.Prelude.{MOST_HOLDS, MOST_BASE_PERMITS, X, S, Object, Semaphore, Latch, Base, seat_of, total, AreCounted, AreHeld, IsGood, most_exclusive, most_shared}
use Rattle.history.proofs.Times.{total_part}

pub few_exclusive : (b : Base) (o : Object) → b.header.object ≡ o → AreHeld o b → (i : ℕ) →
    (seat_of b i).exclusive ≤ MOST_HOLDS
few_exclusive b (Semaphore p c) q v i = omega (arith, v.exclusive i)
few_exclusive b (Latch c) q v i = omega (arith, v i X)
few_exclusive b _ q v i = omega (arith, v.exclusive i, ap most_exclusive q)

pub few_shared : (b : Base) (o : Object) → b.header.object ≡ o → AreHeld o b → (i : ℕ) → i < b.header.seats →
    (seat_of b i).shared ≤ MOST_BASE_PERMITS
few_shared b (Semaphore p c) q v i l = v.shared i
few_shared b (Latch c) q v i l = omega (arith, v i S)
few_shared b _ q v i l =
    omega (arith, total_part b.header.seats (λ j. (seat_of b j).shared) i l, v.shared, ap most_shared q)

pub few_unheld : (b : Base) (o : Object) → AreCounted o b → b.unheld ≤ MOST_BASE_PERMITS
few_unheld b (Semaphore p c) v = v.0
few_unheld b _ v = omega (arith, v.0)

-- a sum of numbers that are small each
pub few_in_all : (n : ℕ) (f : ℕ → ℕ) (most : ℕ) → ((i : ℕ) → i < n → f i ≤ most) → total n f ≤ most * n
few_in_all zero f most few = omega arith
few_in_all (suc n) f most few =
    let before = few_in_all n f most (λ i l. few i (omega (arith, l))) in
    omega (arith, before, few n (omega arith))

-- what all seats hold together
pub few_held : (b : Base) → IsGood b →
    total b.header.seats (λ i. (seat_of b i).shared) ≤ MOST_BASE_PERMITS * b.header.seats
few_held b good =
    few_in_all b.header.seats (λ i. (seat_of b i).shared) MOST_BASE_PERMITS
    (few_shared b b.header.object refl good.held)
