-- Tables that grow at their end, and lists that are made of one.
use Rattle.std.proofs.Common.{◌≡◌, ℕ, ◌+◌, ◌<◌, List, [], ◌∷◌, ◌++◌, length, get_or, arith}
use Rattle.std.proofs.lemmas.List.{get_or_append_left, get_or-append_right}

-- a table with one more at its end
pub pushed : {A : Type 0} (xs : List A) (x d : A) (f : ℕ → A) (n : ℕ) → length xs ≡ n →
    ((i : ℕ) → i < n → get_or xs i d ≡ f i) → x ≡ f n → (i : ℕ) → i < n + 1 →
    get_or (xs ++ x ∷ []) i d ≡ f i
pushed xs x d f n long is last i lt =
    grind (
      arith,
      get_or_append_left xs (x ∷ []) d i,
      is i,
      get_or-append_right xs (x ∷ []) n i d long,
    )
