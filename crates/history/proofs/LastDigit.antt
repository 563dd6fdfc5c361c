-- The last digits of a number, and those before them.
use Rattle.std.proofs.Common.{◌≡◌, ℕ, zero, suc, ◌+◌, ◌<◌, ◌≤◌, ◌/◌, ◌%◌, ◌^◌, Bool, true, false, cond, ltb, List, [], ◌∷◌, ◌++◌, length, decimal, append_assoc, refl, sym, ap, ◌∙◌, arith, lt-ltb, ltb-true}
use Rattle.std.proofs.lemmas.Fmt.{AppendsLastDigit, decimal_from_appends, decimal_digit, length-decimal-le}

by_last : ℕ → ℕ → List ℕ
by_last zero n = []
by_last (suc k) n = cond (ltb n 10) ((48 + n) ∷ []) (by_last k (n / 10) ++ ((48 + n % 10) ∷ []))

not_less : (n : ℕ) (b : Bool) → ltb n 10 ≡ b → 10 ≤ n → b ≡ false
not_less n true e ge = absurd (omega (arith, ltb-true n 10 e, ge))
not_less n false e ge = refl

appends : AppendsLastDigit by_last
unfolding by_last
appends = record {
  one = λ k n lt. rw (lt-ltb n 10 lt) refl;
  more = λ k n ge. rw (not_less n (ltb n 10) refl ge) refl;
}

last_digit : (n : ℕ) → 10 ≤ n → n < 2 ^ 64 → decimal n ≡ decimal (n / 10) ++ ((48 + n % 10) ∷ [])
last_digit n ge fits =
    let below : n / 10 < 2 ^ 64 = omega (arith, fits) in
    let long : length (decimal n) ≤ 21 =
    omega (arith, length-decimal-le 20 n (omega arith) (omega (arith, fits)) fits) in
    sym (decimal_from_appends by_last appends 21 n fits long) ∙ appends.more 20 n ge
    ∙ ap (λ (t : List ℕ). t ++ ((48 + n % 10) ∷ []))
    (decimal_from_appends by_last appends 20 (n / 10) below
    (length-decimal-le 20 (n / 10) (omega arith) (omega (arith, below)) below))

pub two_digits : (n : ℕ) → 10 ≤ n → n < 100 → decimal n ≡ (48 + n / 10) ∷ (48 + n % 10) ∷ []
two_digits n ge lt =
    last_digit n ge (omega (arith, lt))
    ∙ ap (λ (t : List ℕ). t ++ ((48 + n % 10) ∷ [])) (decimal_digit (n / 10) (omega (arith, lt)))

pub last_two : (n : ℕ) → 100 ≤ n → n < 2 ^ 64 →
    decimal n ≡ decimal (n / 100) ++ ((48 + n % 100 / 10) ∷ (48 + n % 100 % 10) ∷ [])
last_two n ge fits =
    let hundreds : n / 10 / 10 ≡ n / 100 = omega arith in
    let tens : n / 10 % 10 ≡ n % 100 / 10 = omega arith in
    let ones : n % 10 ≡ n % 100 % 10 = omega arith in
    let front : decimal (n / 10) ≡ decimal (n / 100) ++ ((48 + n % 100 / 10) ∷ []) =
    rw (← hundreds, ← tens) (last_digit (n / 10) (omega (arith, ge)) (omega (arith, fits))) in
    last_digit n (omega (arith, ge)) fits ∙ rw (front, ones) (simp append_assoc)
