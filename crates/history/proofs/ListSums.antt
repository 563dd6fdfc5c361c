-- Sums over lists and over the first numbers.
use Rattle.std.proofs.Common.{◌≡◌, ◌≢◌, ℕ, zero, suc, ◌+◌, ◌≤◌, true, false, not, eqb, List, [], ◌∷◌, ◌++◌, length, map, take, drop, Some, None, refl, ap, arith}
use Rattle.std.specs.List.{filter}
use Rattle.std.proofs.lemmas.Bool.Decides.{nat_tests}
use Rattle.history.specs.Prelude.{Arrival, place_of, sum_of, has, without, times, seats_of}
use Rattle.history.proofs.Times.{never_has, never_placed}

-- sums over a list
pub sum_of_append : {A : Type 0} (f : A → ℕ) (xs ys : List A) →
    sum_of f (xs ++ ys) ≡ sum_of f xs + sum_of f ys
sum_of_append f [] ys = omega arith
sum_of_append f (x ∷ xs) ys = omega (arith, sum_of_append f xs ys)

pub sum_of_same : {A : Type 0} (f g : A → ℕ) (xs : List A) → ((x : A) → f x ≡ g x) →
    sum_of f xs ≡ sum_of g xs
sum_of_same f g [] same = refl
sum_of_same f g (x ∷ xs) same = omega (arith, sum_of_same f g xs same, same x)

-- each term is one more
pub sum_of_more : {A : Type 0} (f g : A → ℕ) (xs : List A) → ((x : A) → f x ≡ g x + 1) →
    sum_of f xs ≡ sum_of g xs + length xs
sum_of_more f g [] more = omega arith
sum_of_more f g (x ∷ xs) more = omega (arith, sum_of_more f g xs more, more x)

pub sum_of_map : {A B : Type 0} (f : B → ℕ) (g : A → B) (xs : List A) →
    sum_of f (map g xs) ≡ sum_of (λ x. f (g x)) xs
sum_of_map f g [] = refl
sum_of_map f g (x ∷ xs) = ap (λ n. f (g x) + n) (sum_of_map f g xs)

pub sum_of_split : {A : Type 0} (f : A → ℕ) (n : ℕ) (xs : List A) →
    sum_of f (take n xs) + sum_of f (drop n xs) ≡ sum_of f xs
sum_of_split f zero xs = omega arith
sum_of_split f (suc n) [] = refl
sum_of_split f (suc n) (x ∷ xs) = omega (arith, sum_of_split f n xs)

-- A list without a seat that it lacks is that list. The sum over one without a seat that stands in it once
-- lacks that seat's term.
pub without_none : (i : ℕ) (seats : List ℕ) → has i seats ≡ false → without i seats ≡ seats
without_none i [] none = refl
without_none i (j ∷ seats) none = grind (arith, without_none i seats)

pub sum_of_without : (f : ℕ → ℕ) (i : ℕ) (seats : List ℕ) → times i seats ≤ 1 → has i seats ≡ true →
    sum_of f (without i seats) + f i ≡ sum_of f seats
sum_of_without f i [] once there = cc
sum_of_without f i (j ∷ seats) once there =
    grind (arith, nat_tests, never_has i seats, without_none i seats, sum_of_without f i seats)

-- the line without a seat
abbrev pub line_without : ℕ → List Arrival → List Arrival
line_without i q = filter (λ a. not (eqb i a.seat)) q

line_without_none : (i : ℕ) (q : List Arrival) → place_of i q ≡ None → line_without i q ≡ q
line_without_none i [] none = refl
line_without_none i (a ∷ q) none = grind (arith, nat_tests, line_without_none i q)

pub sum_of_line_without : (f : Arrival → ℕ) (i : ℕ) (a : Arrival) (q : List Arrival) →
    times i (seats_of q) ≤ 1 → place_of i q ≡ Some a → sum_of f (line_without i q) + f a ≡ sum_of f q
sum_of_line_without f i a [] once there = cc
sum_of_line_without f i a (x ∷ q) once there =
    grind (arith, nat_tests, never_placed i q, line_without_none i q, sum_of_line_without f i a q)

-- two functions that agree but at a seat have one sum where that seat is missing
pub sum_of_others : (f g : ℕ → ℕ) (i : ℕ) (seats : List ℕ) → ((j : ℕ) → j ≢ i → f j ≡ g j) →
    has i seats ≡ false → sum_of f seats ≡ sum_of g seats
sum_of_others f g i [] same none = refl
sum_of_others f g i (j ∷ seats) same none =
    grind (arith, nat_tests, same j, sum_of_others f g i seats same)

pub sum_of_line_others : (f g : Arrival → ℕ) (i : ℕ) (q : List Arrival) →
    ((a : Arrival) → a.seat ≢ i → f a ≡ g a) → place_of i q ≡ None → sum_of f q ≡ sum_of g q
sum_of_line_others f g i [] same none = refl
sum_of_line_others f g i (a ∷ q) same none =
    grind (arith, nat_tests, same a, sum_of_line_others f g i q same)
