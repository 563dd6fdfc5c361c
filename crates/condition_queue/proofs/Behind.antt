-- Who waits on a condition right after another.
use Rattle.std.proofs.Common.{◌≡◌, ℕ, zero, suc, ◌<◌, ◌^◌, Bool, true, false, ◌||◌, eqb, List, [], ◌∷◌, Option, Some, refl, ap, ◌∙◌, sym, arith, slice_get, eqb-true, eq-eqb}
use Rattle.condition_queue.specs.Below.{has, LinkedLists, items}
use Rattle.condition_queue.specs.declared.sleeper.Sleeper.{Sleeper}
use Rattle.condition_queue.specs.Sleepers.{AreLinkedSleepers}
use Rattle.condition_queue.proofs.Kept.{asleep_below}

pub placed_has : (i : ℕ) (xs : List ℕ) (k : ℕ) → slice_get xs k ≡ Some i → has i xs ≡ true
placed_has i [] k at = cc
placed_has i (x ∷ xs) zero at = let e : x ≡ i = cc in rw (eq-eqb x i e) refl
placed_has i (x ∷ xs) (suc k) at = by (eqb x i) (placed_has i xs k at)
  where
    by : (b : Bool) → has i xs ≡ true → (b || has i xs) ≡ true
    by true t = refl
    by false t = t

pub has_place : (i : ℕ) (xs : List ℕ) → has i xs ≡ true → (k : ℕ) × (slice_get xs k ≡ Some i)
has_place i [] t = cc
has_place i (x ∷ xs) t = by (eqb x i) refl t (has_place i xs)
  where
    by : (b : Bool) → eqb x i ≡ b → (b || has i xs) ≡ true →
        (has i xs ≡ true → (k : ℕ) × (slice_get xs k ≡ Some i)) →
        (k : ℕ) × (slice_get (x ∷ xs) k ≡ Some i)
    by true e t rest = (0, ap Some (eqb-true x i e))
    by false e t rest = let r = rest t in (suc r.0, r.1)

-- whoever waits is one of the seats
pub waiter_below : (seats : ℕ) (l : LinkedLists) (counts : List ℕ) (table : List (Option Sleeper))
    (kept : AreLinkedSleepers seats l counts table) (c k i : ℕ) → slice_get (items l c) k ≡ Some i →
    i < 2 ^ 16
waiter_below seats l counts table kept c k i at =
    let low = asleep_below seats l counts table kept c i
    (sym (kept.listed c i) ∙ placed_has i (items l c) k at) in
    let few = kept.few in
    omega (arith, low, few)

-- nobody is right after a seat that waits on no condition
pub awake_nowhere : (c k i : ℕ) (xs : List ℕ) → has i xs ≡ false → slice_get xs k ≡ Some i → ⊥
awake_nowhere c k i xs none at = let some = placed_has i xs k at in cc (none, some)
