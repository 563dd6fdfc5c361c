-- What an entry makes of the numbers.
use Rattle.std.proofs.Common.{◌≡◌, ◌≢◌, ℕ, zero, suc, ◌+◌, ◌<◌, Some, None, refl, arith}
use Rattle.std.proofs.lemmas.Bool.{cases_eq}
use Rattle.std.proofs.lemmas.Bool.Decides.{nat_tests}
use Rattle.history.specs.Counts.{total, seat_with}

-- the seat that has something, where one has or none
pub seat_with_none : (n : ℕ) (f : ℕ → ℕ) → ((i : ℕ) → f i ≡ 0) → seat_with n f ≡ None
seat_with_none zero f h = refl
seat_with_none (suc n) f h = rw (h n) (seat_with_none n f h)

pub seat_with_one : (n : ℕ) (f : ℕ → ℕ) (j : ℕ) → j < n → 0 < f j → ((i : ℕ) → i ≢ j → f i ≡ 0) →
    seat_with n f ≡ Some j
seat_with_one zero f j l p h = absurd (omega arith)
seat_with_one (suc n) f j l p h =
    let ih : j < n → seat_with n f ≡ Some j = λ m. seat_with_one n f j m p h in
    grind (arith, nat_tests, h n)

-- the sum over the seats
pub total_nothing : (n : ℕ) → total n (λ i. 0) ≡ 0
total_nothing zero = refl
total_nothing (suc n) = omega (arith, total_nothing n)

pub total_same : (n : ℕ) (f g : ℕ → ℕ) → ((i : ℕ) → f i ≡ g i) → total n f ≡ total n g
total_same zero f g h = refl
total_same (suc n) f g h = omega (arith, total_same n f g h, h n)

-- totals of functions that agree below
pub total_agree : (n : ℕ) (f g : ℕ → ℕ) → ((i : ℕ) → i < n → f i ≡ g i) → total n f ≡ total n g
total_agree zero f g same = refl
total_agree (suc n) f g same =
    omega (arith, total_agree n f g (λ i l. same i (omega (arith, l))), same n (omega arith))

pub total_change_below : (n : ℕ) (f g : ℕ → ℕ) (j : ℕ) → j < n → ((i : ℕ) → i < n → i ≢ j → f i ≡ g i) →
    total n f + g j ≡ total n g + f j
total_change_below zero f g j l same = absurd (omega arith)
total_change_below (suc n) f g j l same =
    let ih : j < n → total n f + g j ≡ total n g + f j =
    λ m. total_change_below n f g j m (λ i b. same i (omega (arith, b))) in
    let agree : n ≡ j → total n f ≡ total n g =
    λ e. total_agree n f g (λ i b. same i (omega (arith, b)) (λ q. absurd (omega (arith, b, q, e)))) in
    grind (arith, cases_eq n j, same n (omega arith))

pub total_change : (n : ℕ) (f g : ℕ → ℕ) (j : ℕ) → j < n → ((i : ℕ) → i ≢ j → f i ≡ g i) →
    total n f + g j ≡ total n g + f j
total_change n f g j l h = total_change_below n f g j l (λ i b ne. h i ne)
