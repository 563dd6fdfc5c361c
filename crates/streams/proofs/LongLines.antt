-- A line that is longer than any good one: to let go of some of it, behind its first bytes, changes no
-- reading.
use Rattle.std.proofs.Common.{◌≡◌, ⊎_elim, ℕ, zero, suc, ◌+◌, ◌<◌, ◌≤◌, List, [], ◌∷◌, ◌++◌, length, take, Err, refl, sym, ap, subst, arith, append_assoc, inl, inr, ◌⊎◌, ◌∙◌, length-append, length-take-le, take_all}
use Rattle.std.proofs.lemmas.Bool.{cases_eq, cases_lt}
use Rattle.history.specs.Text.{HasNoBreak}
use Rattle.streams.specs.declared.fault.TextFault.{TextFault}
use Rattle.streams.specs.declared.fault.TextFault.TheVariants.{BadHeader, BadLine, CutShort}
use Rattle.streams.specs.Form.{Form}
use Rattle.streams.specs.Reading.{Begins, IsReading, Reading}
use Rattle.streams.specs.Short.{HasShortLines}
use Rattle.streams.proofs.Cuts.{line_from}
use Rattle.streams.proofs.Lawful.{IsLawful, Lacks}
use Rattle.streams.proofs.Lists.{head_is, tail_is}
use Rattle.streams.proofs.OneReading.{lacks, one}
use Rattle.streams.proofs.WholeLines.{lacks_append}

-- ---- bytes

lacks_take : (n : ℕ) (xs : List ℕ) → Lacks xs → Lacks (take n xs)
lacks_take zero xs p = tt
lacks_take (suc n) [] p = tt
lacks_take (suc n) (x ∷ xs) p = (p.0, lacks_take n xs p.1)

-- a short line, with its break, begins no text that begins with more bytes and no break
too_long : (line front rest after : List ℕ) → Lacks front → length line < length front →
    front ++ rest ≡ line ++ 10 ∷ after → ⊥
too_long line [] rest after p lt e = absurd (omega (arith, lt))
too_long [] (y ∷ front) rest after p lt e = p.0 (head_is e)
too_long (x ∷ line) (y ∷ front) rest after p lt e =
    too_long line front rest after p.1 (omega (arith, lt)) (tail_is e)

-- up to the first break, if there is one
abbrev Broken : List ℕ → Type 0
Broken xs = (line : List ℕ) × (after : List ℕ) × (xs ≡ line ++ 10 ∷ after) × Lacks line

whole_or_broken : (xs : List ℕ) → Lacks xs ⊎ Broken xs
whole_or_broken [] = inl tt
whole_or_broken (x ∷ xs) = ⊎_elim here (there (whole_or_broken xs)) (cases_eq x 10)
  where
    here : x ≡ 10 → Lacks (x ∷ xs) ⊎ Broken (x ∷ xs)
    here e = inr ([], xs, ap (λ (b : ℕ). b ∷ xs) e, tt)

    there : Lacks xs ⊎ Broken xs → (x ≡ 10 → ⊥) → Lacks (x ∷ xs) ⊎ Broken (x ∷ xs)
    there (inl p) other = inl (other, p)
    there (inr p) other = inr (x ∷ p.0, p.1, ap (λ (t : List ℕ). x ∷ t) p.2, (other, p.3))

short_or_long : (line : List ℕ) (bound : ℕ) → (take bound line ≡ line)
    ⊎ ((bound ≤ length line) × (length (take bound line) ≡ bound))
short_or_long line bound =
    ⊎_elim (λ lt. inr (omega arith, length-take-le bound line (omega arith)))
    (λ le. inl (take_all bound line (omega arith))) (cases_lt bound (length line))

-- ---- the fault of a long line

-- without a break the text is cut short
abbrev fault_by : {rest : List ℕ} → Lacks rest ⊎ Broken rest → TextFault → TextFault
fault_by (inl whole) fault = CutShort
fault_by (inr broken) fault = fault

joined : (xs rest line after : List ℕ) → rest ≡ line ++ 10 ∷ after → xs ++ rest ≡ (xs ++ line) ++ 10 ∷ after
joined xs rest line after e = ap (λ (t : List ℕ). xs ++ t) e ∙ sym (append_assoc xs line (10 ∷ after))

long_header : {H I : Type 0} (form : Form H I) (bound : ℕ) → HasShortLines form bound →
    (xs rest : List ℕ) → Lacks xs → bound ≤ length xs → (k : Lacks rest ⊎ Broken rest) →
    IsReading form (xs ++ rest) (Err (fault_by k BadHeader))
long_header form bound short xs rest p long (inl q) = inl (line_from (xs ++ rest) (lacks_append xs rest p q))
long_header form bound short xs rest p long (inr q) = (
  xs ++ q.0,
  q.1,
  joined xs rest q.0 q.1 q.2,
  line_from (xs ++ q.0) (lacks_append xs q.0 p q.3),
  λ h fits same. omega (arith, long, short.header h fits, ap length same, length-append xs q.0),
)

long_line : {H I : Type 0} (form : Form H I) (bound : ℕ) → HasShortLines form bound → (t : List ℕ) (h : H)
    (items : List I) (xs rest : List ℕ) → Begins form t h items (xs ++ rest) → Lacks xs →
    bound ≤ length xs → (k : Lacks rest ⊎ Broken rest)
    → IsReading form t (Err (fault_by k (BadLine (length items + 2))))
long_line form bound short t h items xs rest begun p long (inl q) =
    inr (h, items, xs ++ rest, begun, line_from (xs ++ rest) (lacks_append xs rest p q))
long_line form bound short t h items xs rest begun p long (inr q) =
    let more = length-append xs q.0 in
    inl (
      h,
      items,
      xs ++ q.0,
      q.1,
      subst (Begins form t h items) (joined xs rest q.0 q.1 q.2) begun,
      record {
        whole = line_from (xs ++ q.0) (lacks_append xs q.0 p q.3);
        no_item = λ x fits same. omega (
          arith,
          long,
          short.item h items x begun.header begun.each fits,
          ap length same,
          more,
        );
        no_end = λ ends same. omega (
          arith,
          long,
          short.end h items begun.header begun.each ends,
          ap length same,
          more,
        );
      },
      refl,
    )

-- ---- what is let go of

-- where a good line begins, nothing of it was let go of
pub uncut : (bound : ℕ) (line rest good after : List ℕ) → HasNoBreak line → length good < bound →
    take bound line ++ rest ≡ good ++ 10 ∷ after → take bound line ≡ line
uncut bound line rest good after whole lt e =
    ⊎_elim (λ same. same) (λ long. absurd (too_long good (take bound line) rest after
    (lacks_take bound line (lacks line whole)) (omega (arith, lt, long.1)) e)) (short_or_long line bound)

-- the fault of the first line stays
pub header_cut : {H I : Type 0} (form : Form H I) (bound : ℕ) → IsLawful form → HasShortLines form bound →
    (line rest : List ℕ) (fault : TextFault) → HasNoBreak line →
    IsReading form (take bound line ++ rest) (Err fault) → IsReading form (line ++ rest) (Err fault)
header_cut {H} {I} form bound lawful short line rest fault whole is = by (short_or_long line bound)
  where
    by : (take bound line ≡ line) ⊎ ((bound ≤ length line) × (length (take bound line) ≡ bound))
        → IsReading form (line ++ rest) (Err fault)
    by (inl same) = subst (λ (xs : List ℕ). IsReading form (xs ++ rest) (Err fault)) same is
    by (inr long) =
        let k = whole_or_broken rest in
        let p = lacks line whole in
        let there =
        long_header form bound short (take bound line) rest (lacks_take bound line p)
        (omega (arith, long.1)) k in
        let same =
        one form lawful (take bound line ++ rest) (Err fault) (Err (fault_by k BadHeader)) is there in
        subst (λ (r : Reading H I). IsReading form (line ++ rest) r) (sym same)
        (long_header form bound short line rest p long.0 k)

-- the fault of a line behind items stays
pub line_cut : {H I : Type 0} (form : Form H I) (bound : ℕ) → IsLawful form → HasShortLines form bound →
    (t cut : List ℕ) (h : H) (items : List I) (line rest : List ℕ) (fault : TextFault) → HasNoBreak line →
    Begins form t h items (line ++ rest) → Begins form cut h items (take bound line ++ rest) →
    IsReading form cut (Err fault) → IsReading form t (Err fault)
line_cut {H} {I} form bound lawful short t cut h items line rest fault whole begun begun_cut is =
    by (short_or_long line bound)
  where
    by : (take bound line ≡ line) ⊎ ((bound ≤ length line) × (length (take bound line) ≡ bound))
        → IsReading form t (Err fault)
    by (inl same) =
        let there = subst (λ (xs : List ℕ). Begins form cut h items (xs ++ rest)) same begun_cut in
        subst (λ (x : List ℕ). IsReading form x (Err fault)) (there.parts ∙ sym begun.parts) is
    by (inr long) =
        let k = whole_or_broken rest in
        let p = lacks line whole in
        let bad = BadLine (length items + 2) in
        let there =
        long_line form bound short cut h items (take bound line) rest begun_cut (lacks_take bound line p)
        (omega (arith, long.1)) k in
        let same = one form lawful cut (Err fault) (Err (fault_by k bad)) is there in
        subst (λ (r : Reading H I). IsReading form t r) (sym same)
        (long_line form bound short t h items line rest begun p long.0 k)
