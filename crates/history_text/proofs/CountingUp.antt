-- A number whose last digit is written anew.
use Rattle.std.proofs.Common.{◌≡◌, ℕ, ◌+◌, ◌-◌, ◌<◌, ◌≤◌, ◌/◌, ◌%◌, ◌^◌, Bool, true, false, ltb, List, [], ◌∷◌, ◌++◌, length, get_or, set, take, decimal, append_assoc, refl, sym, ap, ◌∙◌, arith, ltb-false, ltb-true, get_or-take, length-append, length-take-le}
use Rattle.std.proofs.Math.Seq.{set-append_seam, take-set-lt}
use Rattle.std.proofs.lemmas.Fmt.{decimal_digit, decimal_step}

-- the digits before the last, which stay as long as it is below 9
record Ends (n : ℕ) : Type 0 where
  front : List ℕ
  is : decimal n ≡ front ++ (48 + n % 10) ∷ []
  next : n % 10 < 9 → decimal (n + 1) ≡ front ++ (49 + n % 10) ∷ []

ends_by : (n : ℕ) (b : Bool) → ltb n 10 ≡ b → n + 1 < 2 ^ 64 → Ends n
ends_by n true below fits =
    let lt = ltb-true n 10 below in
    let same : n ≡ n % 10 = omega (arith, lt) in
    record {
      front = [];
      is = decimal_digit n lt ∙ ap (λ d. (48 + d) ∷ []) same;
      next = λ more. let digit : 48 + (n + 1) ≡ 49 + n % 10 = omega (arith, same) in
          decimal_digit (n + 1) (omega (arith, more, same)) ∙ ap (λ d. d ∷ []) digit;
    }
ends_by n false above fits =
    let ge : 10 ≤ n = ltb-false n 10 above in
    record {
      front = decimal (n / 10);
      is = decimal_step n ge (omega (arith, fits));
      next = λ more.
          let tens : (n + 1) / 10 ≡ n / 10 = omega (arith, more) in
          let digit : 48 + (n + 1) % 10 ≡ 49 + n % 10 = omega (arith, more) in
          decimal_step (n + 1) (omega (arith, ge)) fits
          ∙ ap (λ t. decimal t ++ (48 + (n + 1) % 10) ∷ []) tens
          ∙ ap (λ d. decimal (n / 10) ++ d ∷ []) digit;
    }

-- the last of some digits, before a space
last_read : (front : List ℕ) (d : ℕ) → get_or (front ++ d ∷ 32 ∷ []) (length front) 0 ≡ d
last_read [] d = refl
last_read (x ∷ xs) d = last_read xs d

spaced : (front : List ℕ) (d : ℕ) → (front ++ d ∷ []) ++ 32 ∷ [] ≡ front ++ d ∷ 32 ∷ []
spaced front d = append_assoc front (d ∷ []) (32 ∷ [])

pub counted_up : (text : List ℕ) (len n : ℕ) → length text ≡ 24 → 2 ≤ len → len ≤ 21 → n + 1 < 2 ^ 64 →
    take len text ≡ decimal n ++ 32 ∷ [] → get_or text (len - 2) 0 < 57 →
    take len (set text (len - 2) (get_or text (len - 2) 0 + 1)) ≡ decimal (n + 1) ++ 32 ∷ []
counted_up text len n long two few fits is below =
    let e = ends_by n (ltb n 10) refl fits in
    let d = 48 + n % 10 in
    let whole : take len text ≡ e.front ++ d ∷ 32 ∷ [] =
    is ∙ ap (λ t. t ++ 32 ∷ []) e.is ∙ spaced e.front d in
    let within : length (take len text) ≡ len = length-take-le len text (omega (arith, few, long)) in
    let at : len - 2 ≡ length e.front =
    omega (arith, two, within, ap length whole, length-append e.front (d ∷ 32 ∷ [])) in
    let last : get_or text (len - 2) 0 ≡ d =
    sym (get_or-take len text (len - 2) 0 (omega (arith, two)))
    ∙ ap (λ t. get_or t (len - 2) 0) whole
    ∙ ap (λ i. get_or (e.front ++ d ∷ 32 ∷ []) i 0) at ∙ last_read e.front d in
    let v = get_or text (len - 2) 0 + 1 in
    let more : v ≡ 49 + n % 10 = omega (arith, last) in
    take-set-lt len text (len - 2) v (omega (arith, two)) ∙ ap (λ t. set t (len - 2) v) whole
    ∙ ap (λ i. set (e.front ++ d ∷ 32 ∷ []) i v) at ∙ set-append_seam e.front d (32 ∷ []) v
    ∙ ap (λ x. e.front ++ x ∷ 32 ∷ []) more ∙ sym (spaced e.front (49 + n % 10))
    ∙ ap (λ t. t ++ 32 ∷ []) (sym (e.next (omega (arith, last, below))))
