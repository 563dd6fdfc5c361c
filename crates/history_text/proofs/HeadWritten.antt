-- The first line and the lines of a base are written.
use Rattle.std.proofs.Common.{◌≡◌, ⊎_elim, ℕ, zero, suc, ◌+◌, ◌≤◌, Bool, List, [], ◌∷◌, ◌++◌, length, get_or, refl, sym, ap, ◌∙◌, arith, append_assoc, append-nil, codes}
use Rattle.std.specs.List.{AllByRecursion}
use Rattle.history_text.specs.Below.{SeatBase, Header, Base, based, each_below, nothing, opening_base, seat_of, total, MOST_FOLDED, IsBaseOf, IsGood, IsInRange, calls, part_of, Start, ended}
use Rattle.history.proofs.OpeningBase.{based_opening}
use Rattle.history_text.specs.Prelude.{BaseLine, IsBaseLine, base_lines, MayFollow, BaseSums, with_sums, no_sums, IsHeadPut, calls_sum, lines_text, head_line, head_of, lines_told, name_of}
use Rattle.history_text.specs.inner.BaseFollowing.{AllFollow}
use Rattle.history_text.proofs.BaseLineLemmas.{may_follow_spelt}
use Rattle.history_text.proofs.BaseTheory.{IsGoodOf, good_follows}
use Rattle.history_text.proofs.HistoryItems.{some_entries, told_some}

few_then : (t : BaseSums) (b : Base) (x : BaseLine) → t.entries ≤ MOST_FOLDED → MayFollow t b x →
    (with_sums t x).entries ≤ MOST_FOLDED
few_then t b x few may = grind arith

follow_spelt : (t : BaseSums) (b : Base) (xs : List BaseLine) → IsInRange b.header → t.entries ≤ MOST_FOLDED →
    AllFollow b t xs → AllByRecursion IsBaseLine xs
follow_spelt t b [] range few all = tt
follow_spelt t b (x ∷ xs) range few all = (
  may_follow_spelt t b x range few all.0,
  follow_spelt (with_sums t x) b xs range (few_then t b x few all.0) all.1,
)

-- each line of a good base has numbers that it may have
pub good_spelt : (b : Base) → IsGoodOf b → AllByRecursion IsBaseLine (base_lines b)
good_spelt b of = follow_spelt no_sums b (base_lines b) of.range (omega arith) (good_follows b of)

total_first : (n : ℕ) (f : ℕ → ℕ) → total (suc n) f ≡ f 0 + total n (λ i. f (suc i))
total_first zero f = omega arith
total_first (suc n) f =
    omega (arith, total_first n f)

-- the calls of all seats
pub sum_total : (xs : List SeatBase) → calls_sum xs ≡ total (length xs) (λ i. (get_or xs i nothing).calls)
sum_total [] = refl
sum_total (x ∷ xs) =
    ap (λ (n : ℕ). x.calls + n) (sum_total xs)
    ∙ sym (total_first (length xs) (λ i. (get_or (x ∷ xs) i nothing).calls))

pub sum_calls : (b : Base) → IsGood b → calls_sum b.seats ≡ calls (based b) []
sum_calls b good =
    sum_total b.seats ∙ ap (λ (n : ℕ). total n (λ i. (seat_of b i).calls)) good.seats

pub sum_few : (b : Base) → IsGood b → calls_sum b.seats ≤ b.entries
sum_few b good = omega (arith, sum_calls b good, good.calls)

sum_push : (xs : List SeatBase) → calls_sum (xs ++ nothing ∷ []) ≡ calls_sum xs
sum_push [] = refl
sum_push (x ∷ xs) = ap (λ (n : ℕ). x.calls + n) (sum_push xs)

-- no call ended before the opening
pub sum_none : (n : ℕ) → calls_sum (each_below n (λ i. nothing)) ≡ 0
sum_none zero = refl
sum_none (suc n) = sum_push (each_below n (λ i. nothing)) ∙ sum_none n

-- no more calls ended before a base than entries were folded into it
pub sums_few : (k : Header) (b : Base) → IsBaseOf k b → calls_sum b.seats ≤ b.entries
sums_few k b of =
    ⊎_elim (λ (e : b ≡ opening_base k). (let z : calls_sum b.seats ≡ 0 =
    ap (λ (a : Base). calls_sum a.seats) e ∙ sum_none k.seats in omega (arith, z)))
    (λ (g : (1 ≤ b.entries) × IsGood b). sum_few b g.1) of.1

-- and as many as the seats ended
pub base_calls : (k : Header) (b : Base) → IsBaseOf k b → calls_sum b.seats ≡ calls (based b) []
base_calls k b of =
    ⊎_elim (λ (e : b ≡ opening_base k). ap (λ (a : Base). calls_sum a.seats) e ∙ sum_none k.seats
    ∙ sym (ap (λ (s : Start). s.calls) (ap based e ∙ based_opening k)))
    (λ (g : (1 ≤ b.entries) × IsGood b). sum_calls b g.1) of.1

-- the first line of format 2 and the lines of a base
pub head_written : (b : Base) (k : Header) (out x new : List ℕ) → 1 ≤ b.entries → b.header ≡ k →
    x ≡ out ++ ended (codes "aqs-history 2 " ++ part_of k) → new ≡ x ++ lines_text (base_lines b)
    → new ≡ out ++ (ended (head_line (head_of b)) ++ lines_text (lines_told b))
head_written b k out x new some header p s =
    let first : head_line (head_of b) ≡ codes "aqs-history 2 " ++ part_of k =
    ap (λ (c : Bool). name_of c ++ part_of b.header) (some_entries b.entries some)
    ∙ ap (λ (h : Header). codes "aqs-history 2 " ++ part_of h) header in
    rw (s, p, first, told_some b some)
    (append_assoc out (ended (codes "aqs-history 2 " ++ part_of k)) (lines_text (base_lines b)))

-- of an opening the first line of format 1 is all
pub opening_written : (k : Header) (out new : List ℕ) →
    new ≡ out ++ ended (codes "aqs-history 1 " ++ part_of k) →
    IsHeadPut (opening_base k) out new 0 0
opening_written k out new is =
    record {
      lines = is
          ∙ ap (λ (t : List ℕ). out ++ t) (sym (append-nil (ended (codes "aqs-history 1 " ++ part_of k))));
      folded = refl;
      few = omega arith;
      calls = sym (sum_none k.seats);
      some = omega arith;
    }
