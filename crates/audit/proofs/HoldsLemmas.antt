-- The holds of an entry's seat, and the seat that has some.
use Rattle.std.proofs.Common.{◌≡◌, ◌≢◌, ℕ, zero, suc, ◌<◌, true, false, cond, eqb, ltb, List, ◌∷◌, Some, None, get_or, replicate, refl, ap, sym, arith, eq-eqb}
use Rattle.std.proofs.Math.Bool.{and-false}
use Rattle.history.proofs.Sums.{seat_with_one}
use Rattle.audit.specs.Below.{Entry, Mode, held, holds_after, seat_with, same_mode, Start}

-- the holds of the entry's seat in its mode, and in the other
pub held_here : (s : Start) (e : Entry) (h : List Entry) (i : ℕ) (m : Mode) → e.seat ≡ i →
    same_mode e.mode m ≡ true → held s (e ∷ h) i m ≡ holds_after s.header.object e.word e.n (held s h i m)
held_here s e h i m seat mode = let t : eqb e.seat i ≡ true = eq-eqb _ _ seat in rw t (rw mode refl)

pub held_other_mode : (s : Start) (e : Entry) (h : List Entry) (i : ℕ) (m : Mode) →
    same_mode e.mode m ≡ false → held s (e ∷ h) i m ≡ held s h i m
held_other_mode s e h i m mode = rw mode (rw (and-false (eqb e.seat i)) refl)

-- the seat that has something
pub seat_with_same : (n : ℕ) (f g : ℕ → ℕ) → ((i : ℕ) → i < n → f i ≡ g i) → seat_with n f ≡ seat_with n g
seat_with_same zero f g h = refl
seat_with_same (suc n) f g h =
    rw (h n (omega arith)) (ap (λ o. cond (ltb 0 (g n)) (Some n) o)
    (seat_with_same n f g (λ i l. h i (omega (arith, l)))))

pub seat_with_zero : (n : ℕ) (f : ℕ → ℕ) → ((i : ℕ) → i < n → f i ≡ 0) → seat_with n f ≡ None
seat_with_zero zero f h = refl
seat_with_zero (suc n) f h = rw (h n (omega arith)) (seat_with_zero n f (λ i l. h i (omega (arith, l))))

pub seat_with_only : (n : ℕ) (f : ℕ → ℕ) (j : ℕ) → j < n → 0 < f j → ((i : ℕ) → j ≢ i → f i ≡ 0) →
    seat_with n f ≡ Some j
seat_with_only n f j l p h = seat_with_one n f j l p (λ i ne. h i (λ q. ne (sym q)))
