-- Lists of seats in which each sleeps once, and a list of such lists of which one changes.
use Rattle.std.proofs.Common.{◌≡◌, inl, inr, ℕ, ◌<◌, ◌≤◌, true, false, not, ◌||◌, ◌&&◌, cond, eqb, List, [], ◌∷◌, ◌++◌, length, take, drop, get_or, set, Some, refl, ap, ◌∙◌, sym, arith, slice_get, eq-eqb, ne_eqb, get_or-set_same, get_or-set_other}
use Rattle.std.specs.List.{AllByRecursion, IsDistinct, list_any}
use Rattle.std.proofs.lemmas.Bool.{cases_eq}
use Rattle.std.proofs.lemmas.Bool.Decides.{nat_tests}
use Rattle.std.proofs.lemmas.Map.Steps.{length-le_from_distinct_below}
use Rattle.acquire_queue.proofs.Lines.{eqb_swap}
use Rattle.history.specs.Sleepers.{has, without}
use Rattle.condition_queue.specs.Sleepers.{SleepOnce}

-- who sleeps, once a seat fell asleep or left
pub has-append : (i : ℕ) (xs ys : List ℕ) → has i (xs ++ ys) ≡ (has i xs || has i ys)
has-append i [] ys = refl
has-append i (x ∷ xs) ys = grind (arith, has-append i xs ys)

pub has-without : (s i : ℕ) (xs : List ℕ) → has i (without s xs) ≡ (not (eqb s i) && has i xs)
has-without s i [] = grind arith
has-without s i (x ∷ xs) = grind (arith, nat_tests, has-without s i xs)

pub without_absent : (s : ℕ) (xs : List ℕ) → has s xs ≡ false → without s xs ≡ xs
without_absent s [] p = refl
without_absent s (x ∷ xs) p = grind (arith, without_absent s xs)

-- each still sleeps once
pub once-push : (s : ℕ) (xs : List ℕ) → SleepOnce xs → has s xs ≡ false → SleepOnce (xs ++ s ∷ [])
once-push s [] once p = (refl, tt)
once-push s (x ∷ xs) once p = grind (arith, nat_tests, has-append x xs (s ∷ []), once-push s xs once.1)

pub once-without : (s : ℕ) (xs : List ℕ) → SleepOnce xs → SleepOnce (without s xs)
once-without s [] once = tt
once-without s (x ∷ xs) once = grind (arith, nat_tests, has-without s x xs, once-without s xs once.1)

-- the first leaves the rest
pub without_first : (s : ℕ) (xs : List ℕ) → SleepOnce xs → slice_get xs 0 ≡ Some s → without s xs ≡ drop 1 xs
without_first s [] once p = refl
without_first s (x ∷ xs) once p =
    let e : x ≡ s = cc in
    rw (eq-eqb x s e) (without_absent s xs (ap (λ y. has y xs) (sym e) ∙ once.0))

pub has_first : (s : ℕ) (xs : List ℕ) → slice_get xs 0 ≡ Some s → has s xs ≡ true
has_first s [] p = cc
has_first s (x ∷ xs) p = let e : x ≡ s = cc in rw (eq-eqb x s e) refl

pub take_first : (s : ℕ) (xs : List ℕ) → slice_get xs 0 ≡ Some s → s ∷ [] ≡ take 1 xs
take_first s [] p = cc
take_first s (x ∷ xs) p = let e : x ≡ s = cc in ap (λ y. y ∷ []) (sym e)

-- no more sleep than there are seats
distinct_seats : (xs : List ℕ) → SleepOnce xs → IsDistinct eqb xs
unfolding IsDistinct
distinct_seats [] once = tt
distinct_seats (x ∷ xs) once = (apart xs once.0, distinct_seats xs once.1)
  where
    apart : (l : List ℕ) → has x l ≡ false → AllByRecursion (λ y. eqb x y ≡ false) l
    apart [] p = tt
    apart (y ∷ l) p = (grind (arith, nat_tests), apart l (grind arith))

any_has : (i : ℕ) (xs : List ℕ) → list_any (eqb i) xs ≡ has i xs
any_has i [] = refl
any_has i (x ∷ xs) = rw (eqb_swap i x) (ap (λ b. eqb x i || b) (any_has i xs))

pub length-once : (n : ℕ) (xs : List ℕ) → SleepOnce xs → ((i : ℕ) → has i xs ≡ true → i < n) → length xs ≤ n
length-once n xs once below =
    length-le_from_distinct_below xs n (distinct_seats xs once) (λ i p. below i (sym (any_has i xs) ∙ p))

-- a list that is read at one place after another has changed
pub at_set : {X : Type 0} (xs : List X) (c d : ℕ) (x y : X) → c < length xs →
    get_or (set xs c x) d y ≡ cond (eqb c d) x (get_or xs d y)
at_set xs c d x y low =
    elim (cases_eq d c) [
      | inl e ↦ rw e (rw (eq-eqb c c refl) (get_or-set_same xs c x y low))
      | inr n ↦ rw (ne_eqb c d (λ e. n (sym e))) (get_or-set_other xs c d x y n)
    ]
