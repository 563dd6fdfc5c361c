-- How often a seat stands in a list.
use Rattle.std.proofs.Common.{◌≡◌, ◌≢◌, ℕ, zero, suc, ◌+◌, ◌<◌, ◌≤◌, Bool, true, false, cond, eqb, List, [], ◌∷◌, ◌++◌, length, map, take, drop, Some, None, refl, ap, ◌∙◌, sym, arith, eq-eqb, take-append-drop}
use Rattle.std.specs.List.{filter, AllByRecursion}
use Rattle.std.proofs.lemmas.Bool.Decides.{nat_tests}
use Rattle.std.proofs.lemmas.List.{map-append}
use Rattle.history.specs.Prelude.{Arrival, total, place_of, coming_back, without, has, times, seats_of}
use Rattle.history.proofs.Sums.{total_change, total_nothing}

-- one where a test says so, and else none
abbrev pub one_if : Bool → ℕ
one_if b = cond b 1 0

-- once where it is the seat, and else not
pub once_same : (j i : ℕ) → j ≡ i → one_if (eqb j i) ≡ 1
once_same j i e = ap one_if (eq-eqb j i e)

pub times-append : (i : ℕ) (xs ys : List ℕ) → times i (xs ++ ys) ≡ times i xs + times i ys
times-append i [] ys = omega arith
times-append i (x ∷ xs) ys = omega (arith, times-append i xs ys)

pub times-take_drop : (i n : ℕ) (xs : List ℕ) → times i (take n xs) + times i (drop n xs) ≡ times i xs
times-take_drop i n xs = sym (times-append i (take n xs) (drop n xs)) ∙ ap (times i) (take-append-drop n xs)

pub times-without_same : (i : ℕ) (xs : List ℕ) → times i (without i xs) ≡ 0
times-without_same i [] = refl
times-without_same i (x ∷ xs) = grind (arith, nat_tests, times-without_same i xs)

pub times-without_other : (i j : ℕ) (xs : List ℕ) → j ≢ i → times i (without j xs) ≡ times i xs
times-without_other i j [] ne = refl
times-without_other i j (x ∷ xs) ne = grind (arith, nat_tests, times-without_other i j xs ne)

-- whether a seat stands in a list, and how often
pub has_once : (i : ℕ) (xs : List ℕ) → has i xs ≡ true → 1 ≤ times i xs
has_once i [] t = cc
has_once i (x ∷ xs) t = grind (arith, has_once i xs)

pub has_not : (i : ℕ) (xs : List ℕ) → has i xs ≡ false → times i xs ≡ 0
has_not i [] t = refl
has_not i (x ∷ xs) t = grind (arith, has_not i xs)

pub once_has : (i : ℕ) (xs : List ℕ) → 1 ≤ times i xs → has i xs ≡ true
once_has i xs l = grind (arith, has_not i xs)

pub never_has : (i : ℕ) (xs : List ℕ) → times i xs ≡ 0 → has i xs ≡ false
never_has i xs z = grind (arith, has_once i xs)

-- whether a seat stands in line, and how often
pub place_once : (i : ℕ) (q : List Arrival) (a : Arrival) → place_of i q ≡ Some a →
    (a.seat ≡ i) × (1 ≤ times i (seats_of q))
place_once i [] a p = cc
place_once i (b ∷ q) a p = grind (arith, nat_tests, place_once i q a)

pub place_never : (i : ℕ) (q : List Arrival) → place_of i q ≡ None → times i (seats_of q) ≡ 0
place_never i [] p = refl
place_never i (b ∷ q) p = grind (arith, place_never i q)

pub never_placed : (i : ℕ) (q : List Arrival) → times i (seats_of q) ≡ 0 → place_of i q ≡ None
never_placed i [] z = refl
never_placed i (b ∷ q) z = grind (arith, never_placed i q)

-- fewer stay in a line that some leave, and who is moved to it stands there as often as before
pub times-filter : (i : ℕ) (p : Arrival → Bool) (q : List Arrival) →
    times i (seats_of (filter p q)) ≤ times i (seats_of q)
times-filter i p [] = omega arith
times-filter i p (a ∷ q) = grind (arith, times-filter i p q)

pub times-line : (i : ℕ) (p q : List Arrival) →
    times i (seats_of (p ++ q)) ≡ times i (seats_of p) + times i (seats_of q)
times-line i p q = ap (times i) (map-append (λ a. a.seat) p q) ∙ times-append i (seats_of p) (seats_of q)

pub seats-coming_back : (xs : List ℕ) → seats_of (map coming_back xs) ≡ xs
seats-coming_back [] = refl
seats-coming_back (x ∷ xs) = ap (λ l. x ∷ l) (seats-coming_back xs)

-- each seat stands in the list once at most, and is below a bound: there are no more than the bound
pub length_total : (n : ℕ) (xs : List ℕ) → AllByRecursion (λ x. x < n) xs →
    length xs ≡ total n (λ i. times i xs)
length_total n [] below = sym (total_nothing n)
length_total n (x ∷ xs) below =
    let change = total_change n (λ i. times i (x ∷ xs)) (λ i. times i xs) x below.0
    (λ i ne. grind (arith, nat_tests)) in
    omega (arith, length_total n xs below.1, once_same x x refl, change)

pub total_part : (n : ℕ) (f : ℕ → ℕ) (j : ℕ) → j < n → f j ≤ total n f
total_part zero f j l = absurd (omega arith)
total_part (suc n) f j l = grind (arith, nat_tests, total_part n f j)

pub total_at_most : (n : ℕ) (f : ℕ → ℕ) → ((i : ℕ) → f i ≤ 1) → total n f ≤ n
total_at_most zero f one = omega arith
total_at_most (suc n) f one = omega (arith, total_at_most n f one, one n)

pub total_less : (n : ℕ) (f : ℕ → ℕ) (j : ℕ) → ((i : ℕ) → f i ≤ 1) → j < n → f j ≡ 0 → total n f < n
total_less zero f j one l z = absurd (omega arith)
total_less (suc n) f j one l z = grind (arith, total_at_most n f one, one n, total_less n f j one)

pub pigeonhole : (n : ℕ) (xs : List ℕ) → AllByRecursion (λ x. x < n) xs → ((i : ℕ) → times i xs ≤ 1) →
    length xs ≤ n
pigeonhole n xs below one = omega (arith, length_total n xs below, total_at_most n (λ i. times i xs) one)

-- and fewer where a seat is missing
pub pigeonhole_less : (n : ℕ) (xs : List ℕ) (j : ℕ) → AllByRecursion (λ x. x < n) xs →
    ((i : ℕ) → times i xs ≤ 1) → j < n → times j xs ≡ 0 → length xs < n
pigeonhole_less n xs j below one l z =
    omega (arith, length_total n xs below, total_less n (λ i. times i xs) j one l z)

-- what holds of each member of two lists holds of each of both, and of each that a test keeps
pub each-append : {A : Type 0} (P : A → Type 0) (xs ys : List A) → AllByRecursion P xs → AllByRecursion P ys →
    AllByRecursion P (xs ++ ys)
each-append P [] ys p q = q
each-append P (x ∷ xs) ys p q = (p.0, each-append P xs ys p.1 q)

pub each-filter : {A : Type 0} (P : A → Type 0) (test : A → Bool) (xs : List A) → AllByRecursion P xs →
    AllByRecursion P (filter test xs)
each-filter P test [] p = tt
each-filter P test (x ∷ xs) p = grind (arith, each-filter P test xs p.1)
