-- A text that is cut at its first line break.
use Rattle.std.proofs.Common.{◌≡◌, ℕ, suc, ◌+◌, ◌-◌, ◌<◌, List, ◌∷◌, ◌++◌, length, take, drop, get_or, sym, ap, ◌∙◌, arith, add-one, eqb-true, eq-eqb, take-append-drop, length-take, get_or-take}
use Rattle.std.proofs.lemmas.List.{take_rest, get_or_default}
use Rattle.std.proofs.Math.Seq.{drop-cons}
use Rattle.memchr.specs.Find.{Passes, is_byte, Nowhere, NoneBefore}
use Rattle.history.specs.Text.{HasNoBreak}

pub no_break : (xs : List ℕ) → Nowhere (Passes (is_byte 10) xs) 0 (length xs) → HasNoBreak xs
no_break xs none = λ k d below e. none k (omega arith) below (eq-eqb _ _ (get_or_default xs k 0 d below ∙ e))

pub first_break : (xs : List ℕ) (i : ℕ) → NoneBefore (Passes (is_byte 10) xs) 0 (length xs) i →
    Passes (is_byte 10) xs i → (xs ≡ take i xs ++ 10 ∷ take (length xs - (i + 1)) (drop (i + 1) xs))
    × HasNoBreak (take i xs)
first_break xs i before passes =
    let here : get_or xs i 0 ≡ 10 = eqb-true _ _ passes in
    let lt : i < length xs = before.high in
    let tail : drop i xs ≡ 10 ∷ drop (i + 1) xs =
    rw add-one (drop-cons xs i 0 lt ∙ ap (λ (b : ℕ). b ∷ drop (suc i) xs) here) in
    let parts : xs ≡ take i xs ++ 10 ∷ drop (i + 1) xs = sym (take-append-drop i xs)
    ∙ ap (λ (x : List ℕ). take i xs ++ x) tail in
    let inside : (k d : ℕ) → k < length (take i xs) →
    k < i = λ k d below. omega (arith, below, length-take i xs) in (
      rw (take_rest xs (i + 1)) parts,
      λ k d below e.
          before.before k (omega arith) (inside k d below)
          (eq-eqb _ _ (get_or_default xs k 0 d (omega (arith, inside k d below, lt))
          ∙ sym (get_or-take i xs k d (inside k d below)) ∙ e)),
    )
