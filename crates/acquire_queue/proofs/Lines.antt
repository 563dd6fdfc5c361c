-- What joining and leaving make of a line.
use Rattle.std.proofs.Common.{◌≡◌, ℕ, ◌+◌, ◌<◌, ◌≤◌, true, false, not, cond, eqb, List, [], ◌∷◌, ◌++◌, length, map, None, refl, ap, ◌∙◌, arith, is_some}
use Rattle.std.specs.List.{filter, AllByRecursion, IsDistinct, list_any, position, position_from}
use Rattle.std.proofs.lemmas.Bool.Decides.{nat_tests}
use Rattle.std.proofs.lemmas.List.{length-map}
use Rattle.std.proofs.lemmas.Iterator.Adapters.{position_from-zero}
use Rattle.std.proofs.lemmas.Map.Steps.{length-le_from_distinct_below}
use Rattle.acquire_queue.specs.Below.{Arrival, place_of, StandOnce}

pub eqb_swap : (i j : ℕ) → eqb i j ≡ eqb j i
eqb_swap i j = grind (arith, nat_tests)

-- who stands where, once a seat stands at the end
pub place_of-push_other : (i : ℕ) (a : Arrival) (line : List Arrival) → eqb a.seat i ≡ false →
    place_of i (line ++ a ∷ []) ≡ place_of i line
place_of-push_other i a [] e = rw e refl
place_of-push_other i a (b ∷ line) e = grind (arith, place_of-push_other i a line e)

pub once-push : (a : Arrival) (line : List Arrival) → StandOnce line → place_of a.seat line ≡ None →
    StandOnce (line ++ a ∷ [])
once-push a [] once p = (refl, tt)
once-push a (b ∷ line) once p =
    grind (arith, nat_tests, place_of-push_other b.seat a line, once-push a line once.1)

-- who stands where, once a seat has left
pub place_of-left : (s i : ℕ) (line : List Arrival) →
    place_of i (filter (λ a. not (eqb s a.seat)) line) ≡ cond (eqb s i) None (place_of i line)
place_of-left s i [] = grind arith
place_of-left s i (a ∷ line) = grind (arith, nat_tests, place_of-left s i line)

pub once-left : (s : ℕ) (line : List Arrival) → StandOnce line →
    StandOnce (filter (λ a. not (eqb s a.seat)) line)
once-left s [] once = tt
once-left s (a ∷ line) once = grind (arith, nat_tests, place_of-left s a.seat line, once-left s line once.1)

-- a seat that doesn't stand in line leaves nothing
pub left_absent : (s : ℕ) (line : List Arrival) → place_of s line ≡ None →
    filter (λ a. not (eqb s a.seat)) line ≡ line
left_absent s [] p = refl
left_absent s (a ∷ line) p = grind (arith, nat_tests, left_absent s line)

-- no more stand in line than there are seats
pub distinct_seats : (line : List Arrival) → StandOnce line → IsDistinct eqb (map (λ a. a.seat) line)
unfolding IsDistinct
distinct_seats [] once = tt
distinct_seats (a ∷ line) once = (apart line once.0, distinct_seats line once.1)
  where
    apart : (l : List Arrival) → place_of a.seat l ≡ None →
        AllByRecursion (λ y. eqb a.seat y ≡ false) (map (λ b. b.seat) l)
    apart [] p = tt
    apart (b ∷ l) p = (grind (arith, nat_tests), apart l (grind arith))

pub stands : (i : ℕ) (line : List Arrival) → list_any (eqb i) (map (λ a. a.seat) line) ≡ true →
    is_some (place_of i line) ≡ true
stands i [] p = cc
stands i (a ∷ line) p = grind (arith, nat_tests, stands i line)

-- a seat has a position exactly where it stands in line
found_from : (s k : ℕ) (line : List Arrival) →
    is_some (position_from (λ a. eqb a.seat s) k line) ≡ is_some (place_of s line)
found_from s k [] = refl
found_from s k (a ∷ line) = grind (arith, found_from s (k + 1) line)

pub found : (s : ℕ) (line : List Arrival) →
    is_some (position (λ a. eqb a.seat s) line) ≡ is_some (place_of s line)
found s line = ap is_some (position_from-zero (λ a. eqb a.seat s) line) ∙ found_from s 0 line

pub found_none : (s : ℕ) (line : List Arrival) → place_of s line ≡ None →
    position (λ a. eqb a.seat s) line ≡ None
found_none s line p = grind (arith, found s line)

-- one fewer stand in line once a seat has left
pub length-left : (s : ℕ) (line : List Arrival) → StandOnce line → is_some (place_of s line) ≡ true →
    length (filter (λ a. not (eqb s a.seat)) line) + 1 ≡ length line
length-left s [] once p = cc
length-left s (a ∷ line) once p = grind (arith, nat_tests, left_absent s line, length-left s line once.1)

-- no more stand in line than there are seats, where each is one of them
pub length-few : (seats : ℕ) (line : List Arrival) → StandOnce line →
    ((i : ℕ) → is_some (place_of i line) ≡ true → i < seats) → length line ≤ seats
length-few seats line once below =
    let few = length-le_from_distinct_below (map (λ a. a.seat) line) seats (distinct_seats line once)
    (λ i p. below i (stands i line p)) in
    omega (arith, few, length-map line (λ a. a.seat))
