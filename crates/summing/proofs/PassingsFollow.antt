-- That it is followed how often a seat was passed.
use Rattle.std.proofs.Common.{◌≡◌, ℕ, ◌<◌, ◌≤◌, Bool, List, [], ◌∷◌, length, get_or, set, arith, is_some}
use Rattle.std.proofs.lemmas.Bool.Decides.{nat_tests}
use Rattle.deciding.proofs.HoldsFollow.{at_set}
use Rattle.summing.specs.Below.{Entry, Start}
use Rattle.summing.specs.Prelude.{Passing, passed, taken_anew, IsPassing, begun}

pub taken_few : (s : Start) (h : List Entry) → taken_anew s h ≤ length h
taken_few s [] = omega arith
taken_few s (e ∷ h) = grind (arith, taken_few s h)

pub passed_few : (s : Start) (h : List Entry) (i : ℕ) → passed s h i ≤ length h
passed_few s [] i = omega arith
passed_few s (e ∷ h) i = grind (arith, passed_few s h i)

-- a seat was passed no more often in earlier waits
pub noted_few : (waits : Bool) (taken n : ℕ) (p : Passing) → IsPassing waits taken n p → p.passed ≤ n
noted_few waits taken n p is = grind arith

pub passings_follow : (s : Start) (e : Entry) (h : List Entry) (table : List Passing) (v d : Passing) →
    e.seat < length table → v.passed ≡ passed s h e.seat → v.mark ≡ taken_anew s (e ∷ h) →
    ((i : ℕ) → i < s.header.seats →
    IsPassing (is_some (begun s h i)) (taken_anew s h) (passed s h i) (get_or table i d)) →
    (i : ℕ) → i < s.header.seats →
    IsPassing (is_some (begun s (e ∷ h) i)) (taken_anew s (e ∷ h)) (passed s (e ∷ h) i)
    (get_or (set table e.seat v) i d)
passings_follow s e h table v d seat was mark is i lt =
    grind (arith, nat_tests, at_set table e.seat i v d seat, is i lt)

-- the same, of the same numbers
pub passing_of : (waits waits' : Bool) (taken taken' n : ℕ) (p p' : Passing) → waits ≡ waits' → taken ≡ taken' →
    p ≡ p' → IsPassing waits' taken' n p' → IsPassing waits taken n p
passing_of waits waits' taken taken' n p p' w t q is = grind arith

-- nobody was passed at the start
pub none_passed : (waits : Bool) (p : Passing) → p.passed ≡ 0 → p.mark ≡ 0 → IsPassing waits 0 0 p
none_passed waits p zero none = grind arith
