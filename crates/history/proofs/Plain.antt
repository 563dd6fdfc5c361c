-- Words hold neither spaces nor line breaks, so a line gives its words back.
use Rattle.std.proofs.Common.{◌≡◌, ℕ, suc, ◌+◌, ◌^◌, ◌<◌, ◌≤◌, ◌%◌, Bool, true, false, ltb, eqb, List, [], ◌∷◌, All, refl, ap, ◌∙◌, arith, decimal, ℤ, pos, negsuc, FitsSigned, lt-ltb, ltb-true, ne_eqb}
use Rattle.std.specs.Int.{w32}
use Rattle.std.specs.Fmt.{signed_decimal}
use Rattle.std.specs.List.{list_all, AllByRecursion}
use Rattle.std.proofs.lemmas.Bool.{and_parts}
use Rattle.std.proofs.lemmas.Fmt.{decimal_by_steps}
use Rattle.std.proofs.lemmas.List.Folds.{list_all-append}
use Rattle.std.proofs.lemmas.List.Elements.{All-from_recursion}
use Rattle.std.proofs.lemmas.List.Splits.{slice_split_at, slice_split_none}
use Rattle.history.specs.Text.{line_of, words_of}

-- each byte is above a space
abbrev pub is_plain : List ℕ → Bool
is_plain = list_all (λ b. ltb 32 b)

abbrev pub ArePlain : List (List ℕ) → Type 0
ArePlain = AllByRecursion (λ w. is_plain w ≡ true)

-- a plain word has no byte that is at most 32
lacks : (c : ℕ) → c ≤ 32 → (w : List ℕ) → is_plain w ≡ true → AllByRecursion (λ b. eqb b c ≡ false) w
lacks c le [] e = tt
lacks c le (b ∷ bs) e =
    let t = and_parts (ltb 32 b) (is_plain bs) e in
    (ne_eqb b c (λ same. omega (arith, ltb-true 32 b t.0)), lacks c le bs t.1)

pub lacks_byte : (c : ℕ) → c ≤ 32 → (w : List ℕ) → is_plain w ≡ true → All (λ b. eqb b c ≡ false) w
lacks_byte c le w e = All-from_recursion _ w (lacks c le w e)

pub words_again : (w : List ℕ) (ws : List (List ℕ)) → ArePlain (w ∷ ws) → words_of (line_of (w ∷ ws)) ≡ w ∷ ws
words_again w [] h = slice_split_none _ w (lacks_byte 32 (omega arith) w h.0)
words_again w (v ∷ ws) h =
    slice_split_at _ w 32 (line_of (v ∷ ws)) (lacks_byte 32 (omega arith) w h.0) refl
    ∙ ap (λ (x : List (List ℕ)). w ∷ x) (words_again v ws h.1)

pub decimal_plain : (n : ℕ) → n < 2 ^ 64 → is_plain (decimal n) ≡ true
decimal_plain n lt = decimal_by_steps (λ n ds. is_plain ds ≡ true)
    (λ n small. rw (lt-ltb 32 (48 + n) (omega arith)) refl)
    (λ n ds large front. list_all-append _ ds ((48 + n % 10) ∷ [])
    ∙ rw (front, lt-ltb 32 (48 + n % 10) (omega arith)) refl)
    n lt

pub signed_plain : (z : ℤ) → FitsSigned w32 z → is_plain (signed_decimal z) ≡ true
signed_plain (pos n) fits = decimal_plain n (omega (arith, fits))
signed_plain (negsuc n) fits = decimal_plain (suc n) (omega (arith, fits))
