-- Moving sleepers one after another.
use Rattle.std.proofs.Common.{◌≡◌, ◌⊎◌, inl, inr, ℕ, zero, suc, ◌+◌, ◌<◌, Bool, true, false, ◌||◌, cond, eqb, List, [], ◌∷◌, ◌++◌, length, map, take, drop, Option, Some, None, refl, ap, ◌∙◌, sym, arith, slice_get, eq-eqb, ne_eqb, append_assoc, drop-drop, length-drop}
use Rattle.std.proofs.lemmas.Bool.{cases_eq, cond-true, cond-false}
use Rattle.std.proofs.lemmas.Bool.Decides.{nat_tests}
use Rattle.std.proofs.lemmas.List.{map-append}
use Rattle.std.proofs.Math.Seq.{take-add}
use Rattle.condition_queue.specs.Below.{Arrival, coming_back, place_of, has, without, at_most_one, Line}
use Rattle.condition_queue.specs.Sleepers.{Sleepers, SleepOnce, asleep_on, sleeper_of, sleeps_on}
use Rattle.condition_queue.specs.declared.sleeper.Sleeper.{Sleeper}
use Rattle.condition_queue.specs.Moves.{Moves}
use Rattle.condition_queue.proofs.Lists.{has-append, without_first}
use Rattle.condition_queue.proofs.Kept.{left_elsewhere}
use Rattle.history.proofs.Awaiting.{comes_not}

pub at_most_one_is : (n : ℕ) → 0 < n → at_most_one n ≡ 1
at_most_one_is n p = rw (ne_eqb n 0 (λ e. absurd (omega (arith, e)))) refl

pub nobody_first : (xs : List ℕ) → slice_get xs 0 ≡ None → at_most_one (length xs) ≡ 0
nobody_first [] p = refl
nobody_first (x ∷ xs) p = cc

-- the lists and the sleepers, once the first on a condition is awake
pub moved_lists : (c s : ℕ) (old new : ℕ → List ℕ) (o : Option Sleeper) →
    ((d : ℕ) → new d ≡ without s (old d)) →
    SleepOnce (old c) → Some s ≡ slice_get (old c) 0 → sleeps_on c o ≡ true →
    ((d : ℕ) → has s (old d) ≡ sleeps_on d o) → (d : ℕ) → new d ≡ cond (eqb c d) (drop 1 (old d)) (old d)
moved_lists c s old new o left once first asleep listed d = by (cases_eq c d)
  where
    by : (c ≡ d) ⊎ (c ≡ d → ⊥) → new d ≡ cond (eqb c d) (drop 1 (old d)) (old d)
    by (inl e) =
        left d ∙ ap (λ k. without s (old k)) (sym e) ∙ without_first s (old c) once (sym first)
        ∙ ap (λ k. drop 1 (old k)) e ∙ sym (cond-true _ _ _ (eq-eqb c d e))
    by (inr n) =
        left d ∙ left_elsewhere c d s o (old d) asleep (λ e. n (sym e)) (listed d)
        ∙ sym (cond-false _ _ _ (ne_eqb c d n))

pub moved_sleepers : (s : ℕ) (xs : List ℕ) (old new : ℕ → Option Sleeper) →
    ((i : ℕ) → new i ≡ cond (eqb s i) None (old i)) → s ∷ [] ≡ take 1 xs → (i : ℕ) →
    new i ≡ cond (has i (take 1 xs)) None (old i)
moved_sleepers s xs old new left first i =
    left i ∙ ap (λ b. cond b None (old i)) (alone ∙ ap (has i) first)
  where
    alone : eqb s i ≡ (eqb s i || false)
    alone = grind arith

-- who still sleeps on the condition
pub left_asleep : (c k : ℕ) (old mid : Sleepers) (before after : Line) → Moves c k old mid before after →
    asleep_on mid c ≡ drop k (asleep_on old c)
left_asleep c k old mid before after moves = moves.lists c ∙ rw (eq-eqb c c refl) refl

one_more : (c k n : ℕ) (old mid new : Sleepers) (before line after : Line) → Moves c k old mid before line →
    Moves c n mid new line after → k < length (asleep_on old c) → n ≡ 1 → Moves c (k + 1) old new before after
one_more c k n old mid new before line after first next low e =
    record {
      arrivals = arrivals;
      lists = λ d. lists d (cases_eq c d);
      sleepers = λ i. sleepers i;
      joined = omega (arith, first.joined, next.joined, e);
      line_seats = next.line_seats ∙ first.line_seats;
      seats = next.seats ∙ first.seats;
      conditions = next.conditions ∙ first.conditions;
    }
  where
    rest : take n (asleep_on mid c) ≡ take 1 (drop k (asleep_on old c))
    rest = ap (λ m. take m (asleep_on mid c)) e ∙ ap (take 1) (left_asleep c k old mid before line first)

    parts : take (k + 1) (asleep_on old c) ≡ take k (asleep_on old c) ++ take 1 (drop k (asleep_on old c))
    parts = take-add k 1 (asleep_on old c)

    arrivals : after.arrivals ≡ before.arrivals ++ map coming_back (take (k + 1) (asleep_on old c))
    arrivals =
        next.arrivals
        ∙ ap (λ l. l ++ map coming_back (take n (asleep_on mid c))) first.arrivals
        ∙ append_assoc before.arrivals (map coming_back (take k (asleep_on old c)))
        (map coming_back (take n (asleep_on mid c)))
        ∙ ap (λ l. before.arrivals ++ l)
        (sym (map-append coming_back (take k (asleep_on old c)) (take n (asleep_on mid c))))
        ∙ ap (λ l. before.arrivals ++ map coming_back (take k (asleep_on old c) ++ l)) rest
        ∙ ap (λ l. before.arrivals ++ map coming_back l) (sym parts)

    lists : (d : ℕ) → (c ≡ d) ⊎ (c ≡ d → ⊥) →
        asleep_on new d ≡ cond (eqb c d) (drop (k + 1) (asleep_on old d)) (asleep_on old d)
    lists d (inl f) =
        next.lists d
        ∙ ap (λ l. cond (eqb c d) (drop n l) l) (first.lists d)
        ∙ rw (eq-eqb c d f) (ap (λ m. drop m (drop k (asleep_on old d))) e ∙ drop-drop 1 k (asleep_on old d))
    lists d (inr m) =
        next.lists d
        ∙ ap (λ l. cond (eqb c d) (drop n l) l) (first.lists d)
        ∙ rw (ne_eqb c d m) refl

    two : (a b : Bool) (o : Option Sleeper) → cond b None (cond a None o) ≡ cond (a || b) None o
    two a b o = grind arith

    sleepers : (i : ℕ) → sleeper_of new i ≡ cond (has i (take (k + 1) (asleep_on old c))) None
        (sleeper_of old i)
    sleepers i =
        next.sleepers i
        ∙ ap (λ o. cond (has i (take n (asleep_on mid c))) None o) (first.sleepers i)
        ∙ ap (λ l. cond (has i l) None (cond (has i (take k (asleep_on old c))) None (sleeper_of old i))) rest
        ∙ two (has i (take k (asleep_on old c))) (has i (take 1 (drop k (asleep_on old c))))
        (sleeper_of old i)
        ∙ ap (λ b. cond b None (sleeper_of old i))
        (sym (has-append i (take k (asleep_on old c)) (take 1 (drop k (asleep_on old c))))
        ∙ ap (has i) (sym parts))

pub moves_more : (c k n : ℕ) (old mid new : Sleepers) (before line after : Line) →
    Moves c k old mid before line → Moves c n mid new line after → k < length (asleep_on old c) →
    n ≡ at_most_one (length (asleep_on mid c)) → Moves c (k + 1) old new before after
moves_more c k n old mid new before line after first next low e =
    let some : 0 < length (asleep_on mid c) =
    omega (
      arith,
      low,
      length-drop k (asleep_on old c),
      ap length (left_asleep c k old mid before line first),
    ) in
    one_more c k n old mid new before line after first next low (e
    ∙ at_most_one_is (length (asleep_on mid c)) some)

-- those who still sleep aren't in the line, for each sleeps once
place_of-append : (i : ℕ) (xs ys : List Arrival) → place_of i xs ≡ None → place_of i ys ≡ None →
    place_of i (xs ++ ys) ≡ None
place_of-append i [] ys p q = q
place_of-append i (a ∷ xs) ys p q = grind (arith, place_of-append i xs ys)

drop_has : (i k : ℕ) (xs : List ℕ) → has i (drop k xs) ≡ true → has i xs ≡ true
drop_has i zero xs p = p
drop_has i (suc k) [] p = p
drop_has i (suc k) (x ∷ xs) p = grind (arith, drop_has i k xs p)

once_apart : (i k : ℕ) (xs : List ℕ) → SleepOnce xs → has i (drop k xs) ≡ true → has i (take k xs) ≡ false
once_apart i zero xs once p = refl
once_apart i (suc k) [] once p = refl
once_apart i (suc k) (x ∷ xs) once p = grind (arith, nat_tests, drop_has i k xs p, once_apart i k xs once.1 p)

pub still_apart : (c k : ℕ) (old mid : Sleepers) (before line : Line) → Moves c k old mid before line →
    SleepOnce (asleep_on old c) →
    ((i : ℕ) → has i (asleep_on old c) ≡ true → place_of i before.arrivals ≡ None) → (i : ℕ) →
    has i (asleep_on mid c) ≡ true → place_of i line.arrivals ≡ None
still_apart c k old mid before line moves once apart i p =
    let q : has i (drop k (asleep_on old c)) ≡ true =
    ap (has i) (sym (left_asleep c k old mid before line moves)) ∙ p in
    ap (place_of i) moves.arrivals
    ∙ place_of-append i before.arrivals (map coming_back (take k (asleep_on old c)))
    (apart i (drop_has i k (asleep_on old c) q))
    (comes_not i (take k (asleep_on old c)) (once_apart i k (asleep_on old c) once q))
