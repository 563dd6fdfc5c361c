-- Threads that were started one by one.
use Rattle.std.proofs.Common.{◌≡◌, ℕ, zero, suc, ◌+◌, ◌<◌, ◌≤◌, List, [], ◌∷◌, ◌++◌, length, drop, Some, ap, sym, subst, arith, ◌∙◌, get_or, ⊎_elim, drop-drop}
use Rattle.std.specs.List.{slice_get}
use Rattle.std.proofs.Math.Nat.{eq-or-lt_of_le}
use Rattle.std.proofs.lemmas.List.{get_or_append_left, get_or_push}

-- what holds of each holds of one more
pub each_more : {H : Type 0} (P : ℕ → H → Type 0) (hs : List H) (h : H) (k : ℕ) (all : List H) →
    all ≡ hs ++ h ∷ [] → length hs ≡ k → ((i : ℕ) (d : H) → i < k → P i (get_or hs i d)) → P k h →
    (i : ℕ) (d : H) → i < k + 1 → P i (get_or all i d)
each_more {H} P hs h k all is len old here i d below =
    let up : i ≤ k = omega (arith, below) in
    let last = ap (λ (z : List H). get_or z k d) is ∙ get_or_push hs h d k len in
    ⊎_elim
    (λ (same : i ≡ k). subst (λ (n : ℕ). P n (get_or all n d)) (sym same) (subst (P k) (sym last) here))
    (λ (less : i < k). subst (P i)
    (sym (ap (λ (z : List H). get_or z i d) is
    ∙ get_or_append_left hs (h ∷ []) d i (omega (arith, len, less))))
    (old i d less))
    (eq-or-lt_of_le up)

-- the first of those that are left, and the others
pub left_at : {A : Type 0} (xs : List A) (k : ℕ) (x : A) (rest : List A) → drop k xs ≡ x ∷ rest →
    slice_get xs k ≡ Some x
left_at [] zero x rest same = cc
left_at [] (suc k) x rest same = cc
left_at (y ∷ xs) zero x rest same = cc
left_at (y ∷ xs) (suc k) x rest same = left_at xs k x rest same

pub left_more : {A : Type 0} (xs : List A) (k : ℕ) (x : A) (rest : List A) → drop k xs ≡ x ∷ rest →
    drop (k + 1) xs ≡ rest
left_more xs k x rest same = sym (drop-drop 1 k xs) ∙ ap (drop 1) same
