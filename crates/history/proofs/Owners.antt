-- Who owns, what it holds, and that nobody takes past the limit.
use Rattle.std.proofs.Common.{◌≡◌, ℕ, zero, suc, ◌+◌, ◌<◌, ◌≤◌, true, false, List, [], ◌∷◌, Option, Some, None, refl, ap, ◌∙◌, sym, arith}
use Rattle.std.proofs.lemmas.Bool.Decides.{nat_tests}
use Rattle.history.specs.Prelude.{MOST_HOLDS, Arrival, Entry, X, Object, Lock, ReadWrite, could, could_of, is_seat, is_none_or, Counts, counts, owner, seat_with, line, first_of, place_of, ready, ready_by, in_holds, is_lock, is_semaphore, most_exclusive, Start}

-- the seat that has something
pub seat_with_found : (n : ℕ) (f : ℕ → ℕ) (j : ℕ) → seat_with n f ≡ Some j → (j < n) × (0 < f j)
seat_with_found zero f j q = cc
seat_with_found (suc n) f j q = grind (arith, nat_tests, seat_with_found n f j)

pub seat_with_nobody : (n : ℕ) (f : ℕ → ℕ) (j : ℕ) → seat_with n f ≡ None → j < n → f j ≡ 0
seat_with_nobody zero f j q l = absurd (omega arith)
seat_with_nobody (suc n) f j q l = grind (arith, nat_tests, seat_with_nobody n f j)

pub owner_holds : (k : Counts) (i : ℕ) → owner k ≡ Some i → (i < k.seats) × (0 < k.held i X)
owner_holds k i q = seat_with_found k.seats (λ j. k.held j X) i q

pub nobody_holds : (k : Counts) (i : ℕ) → owner k ≡ None → i < k.seats → k.held i X ≡ 0
nobody_holds k i q l = seat_with_nobody k.seats (λ j. k.held j X) i q l

pub no_owner : (o : Option ℕ) (i : ℕ) → is_seat o i ≡ false → is_none_or o i ≡ true → o ≡ None
no_owner None i f t = refl
no_owner (Some j) i f t = cc

-- whoever could take exclusively is within the limit when it has
pub within_limit : (k : Counts) (i n : ℕ) → i < k.seats → could k i X n ≡ true →
    k.held i X + in_holds k.object n ≤ most_exclusive k.object
within_limit k i n l t = by k.object t
  where
    by : (o : Object) → could_of o k i X n ≡ true → k.held i X + in_holds o n ≤ most_exclusive o
    by (Lock policy) u = grind (arith, nat_tests)
    by (ReadWrite policy) u =
        let nobody = λ (q : owner k ≡ None). nobody_holds k i q l in grind (arith, nat_tests, nobody)
    by _ u = cc

-- who is ready is the first in line, and could take what it asks for
pub ready_first : (k : Counts) (q : List Arrival) (i : ℕ) → ready_by k (first_of q) ≡ Some i →
    (a : Arrival) × (first_of q ≡ Some a) × (a.seat ≡ i) × (could k a.seat a.mode a.n ≡ true)
ready_first k [] i r = cc
ready_first k (a ∷ q) i r = (a, refl, grind arith, grind arith)

first_place : (q : List Arrival) (f a : Arrival) (i : ℕ) → first_of q ≡ Some f → f.seat ≡ i →
    place_of i q ≡ Some a → f ≡ a
first_place [] f a i p s r = cc
first_place (b ∷ q) f a i p s r = grind (arith, nat_tests)

pub ready_could : (s : Start) (h : List Entry) (i : ℕ) (a : Arrival) → ready s h ≡ Some i →
    place_of i (line s h) ≡ Some a → could (counts s h) i a.mode a.n ≡ true
ready_could s h i a r p =
    let f = ready_first (counts s h) (line s h) i r in
    let same : f.0 ≡ a = first_place (line s h) f.0 a i f.1 f.2 p in
    ap (λ j. could (counts s h) j a.mode a.n) (sym f.2 ∙ ap (λ (x : Arrival). x.seat) same)
    ∙ ap (λ (x : Arrival). could (counts s h) x.seat x.mode x.n) (sym same) ∙ f.3

-- a semaphore isn't owned
pub semaphore_no_lock : (o : Object) → is_semaphore o ≡ true → is_lock o ≡ true → ⊥
semaphore_no_lock o t u = grind arith

-- the most exclusive holds fit 31 bits
pub most_fits : (o : Object) → most_exclusive o ≤ MOST_HOLDS
most_fits o = grind arith
