-- Numbers of 128 bits: what is read has the one spelling, and no number is spelt by what isn't read.
use Rattle.std.proofs.Common.{Bool, true, false, cond, ltb, ◌&&◌, Option, Some, None, bytes_eq, ◌≡◌, ℕ, ◌+◌, ◌^◌, ◌<◌, ◌≤◌, ◌%◌, List, [], ◌∷◌, decimal, refl, sym, ◌∙◌, arith, IfSome, IfNone, lt-ltb, le-leb, ltb-true}
use Rattle.std.specs.Str.Parse.{digits_value}
use Rattle.std.proofs.lemmas.Bool.{and_parts}
use Rattle.std.proofs.lemmas.Fmt.{decimal_is_IsNumeral_wide, decimal_by_steps_wide}
use Rattle.std.proofs.lemmas.List.Folds.{list_all-append}
use Rattle.std.proofs.lemmas.Slice.Eq.{bytes_eq-Decides}
use Rattle.history.specs.Reading.{Words, wide_from, wide_at}
use Rattle.history.proofs.Numbers.{equal_bytes}
use Rattle.history.proofs.Plain.{is_plain}

-- what is spelt is read again
pub wide_again : (n : ℕ) → n < 2 ^ 128 → wide_from (decimal n) ≡ Some n
unfolding wide_from
wide_again n lt =
    let value : digits_value 10 (decimal n) ≡ n = (decimal_is_IsNumeral_wide n (omega arith)).1 in
    rw (value, equal_bytes (decimal n), lt-ltb n (2 ^ 128) lt) refl

-- a number in its range is read again
pub wide_at_again : (least most n : ℕ) (ws : Words) → n < 2 ^ 128 → least ≤ n → n ≤ most →
    wide_at least most (decimal n ∷ ws) ≡ Some (n, ws)
wide_at_again least most n ws lt low high =
    rw (wide_again n lt, le-leb least n low, le-leb n most high) refl

pub wide_plain : (n : ℕ) → n < 2 ^ 128 → is_plain (decimal n) ≡ true
wide_plain n lt = decimal_by_steps_wide (λ n ds. is_plain ds ≡ true)
    (λ n small. rw (lt-ltb 32 (48 + n) (omega arith)) refl)
    (λ n ds large front. list_all-append _ ds ((48 + n % 10) ∷ [])
    ∙ rw (front, lt-ltb 32 (48 + n % 10) (omega arith)) refl)
    n (omega arith)

pub is_wide_from : (bs : List ℕ) (r : Option ℕ) → IfSome r (λ n. (bs ≡ decimal n) × (n < 2 ^ 128)) →
    IfNone r ((n : ℕ) → n < 2 ^ 128 → bs ≡ decimal n → ⊥) → r ≡ wide_from bs
unfolding wide_from
is_wide_from bs (Some n) found none = sym (rw found.0 (wide_again n found.1))
is_wide_from bs None found none =
    tested (bytes_eq bs (decimal (digits_value 10 bs)) && ltb (digits_value 10 bs) (2 ^ 128)) refl
  where
    tested : (b : Bool) → (bytes_eq bs (decimal (digits_value 10 bs)) && ltb (digits_value 10 bs) (2 ^ 128))
        ≡ b → None ≡ cond b (Some (digits_value 10 bs)) None
    tested true e =
        let t = and_parts _ _ e in absurd (none (digits_value 10 bs) (ltb-true _ _ t.1)
        ((bytes_eq-Decides bs (decimal (digits_value 10 bs))).0 t.0))
    tested false e = refl
