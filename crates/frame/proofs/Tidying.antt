-- A queue without a cancelled node is tidy.
use Rattle.std.proofs.Common.{◌≡◌, ℕ, zero, suc, ◌≤◌, Bool, true, false, cond, List, [], ◌∷◌, length, Some, refl, ap, ◌∙◌, arith, slice_get}
use Rattle.frame.specs.Below.{live, IsTidy, NumberedNode}

live_few : (nodes : List NumberedNode) → length (live nodes) ≤ length nodes
live_few [] = omega arith
live_few (x ∷ rest) = by x.node.cancelled (live_few rest)
  where
    by : (b : Bool) → length (live rest) ≤ length rest →
        length (cond b (live rest) (x.node.arrival ∷ live rest)) ≤ length (x ∷ rest)
    by true ih = omega (arith, ih)
    by false ih = omega (arith, ih)

more_than : (a b : ℕ) → suc a ≤ b → b ≤ a → ⊥
more_than a b more few = omega (arith, more, few)

less_one : (a b : ℕ) → suc a ≤ suc b → a ≤ b
less_one a b more = omega (arith, more)

some_same : (x y : NumberedNode) → Some x ≡ Some y → y ≡ x
some_same x y q = cc

all_live : (nodes : List NumberedNode) (k : ℕ) (x : NumberedNode) → length nodes ≤ length (live nodes) →
    slice_get nodes k ≡ Some x → x.node.cancelled ≡ false
all_live [] k x all at = cc
all_live (y ∷ rest) k x all at =
    by y.node.cancelled refl all k at (λ less j there. all_live rest j x less there)
  where
    by : (b : Bool) → y.node.cancelled ≡ b →
        length (y ∷ rest) ≤ length (cond b (live rest) (y.node.arrival ∷ live rest)) → (j : ℕ) →
        slice_get (y ∷ rest) j ≡ Some x →
        (length rest ≤ length (live rest) → (i : ℕ) → slice_get rest i ≡ Some x → x.node.cancelled ≡ false) →
        x.node.cancelled ≡ false
    by true is more j here ih = absurd (more_than (length rest) (length (live rest)) more (live_few rest))
    by false is more zero here ih = ap (λ (z : NumberedNode). z.node.cancelled) (some_same y x here) ∙ is
    by false is more (suc j) here ih = ih (less_one (length rest) (length (live rest)) more) j here

pub all_live_tidy : (i : ℕ) (nodes : List NumberedNode) → length nodes ≤ length (live nodes) → IsTidy i nodes
all_live_tidy i nodes all zero before x at here stays seat = cc
all_live_tidy i nodes all (suc k) before x at here stays seat = all_live nodes k before all at
