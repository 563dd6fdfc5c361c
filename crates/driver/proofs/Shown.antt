-- The entries before the first illegal one, of those that were kept.
use Rattle.std.proofs.Common.{◌≡◌, ℕ, zero, suc, ◌<◌, ◌≤◌, ◌^◌, arith, List, [], ◌∷◌, ◌++◌, length, take, drop, reverse, refl, ap, ◌∙◌, sym, subst, length-append, length-drop, length-take, take-append-drop, Option, Some, IfSome}
use Rattle.std.specs.List.{All, AllByRecursion, slice_get}
use Rattle.std.proofs.lemmas.Grind.{common_steps}
use Rattle.std.proofs.lemmas.List.{length-reverse, reverse-append, reverse-reverse}
use Rattle.std.proofs.lemmas.List.Elements.{All-take, recursion_from_All}
use Rattle.std.proofs.lemmas.Option.{get_or_from_slice_get, slice_get_within}
use Rattle.driver.specs.Below.{Judgement, Verdict, IsJudgement, front, verdict_of, Entry, Base, based, folded, IsInRange, AreSeated, IsLegal, CanFold, Start}
use Rattle.audit.specs.declared.verdict.Judgement.TheVariants.{Legal, NotLegal}
use Rattle.audit.specs.declared.verdict.Verdict.TheVariants as verdict
use Rattle.history_text.proofs.Lists.{each-reverse}
use Rattle.driver.specs.declared.judged.Judged.{Judged}
use Rattle.driver.specs.declared.telling.Telling.{Telling}
use Rattle.driver.specs.Prelude.{before_wrong}
use Rattle.driver.specs.inner.Judged.{CanExplain, IsJudged}
use Rattle.driver.specs.inner.Telling.{legal_front}

-- ---- the first of the first entries

take_twice : (m n : ℕ) (xs : List Entry) → take m (take n xs) ≡ take n (take m xs)
take_twice zero zero xs = refl
take_twice zero (suc n) xs = refl
take_twice (suc m) zero xs = refl
take_twice (suc m) (suc n) [] = refl
take_twice (suc m) (suc n) (x ∷ xs) = ap (λ (ys : List Entry). x ∷ ys) (take_twice m n xs)

-- the first entries, oldest first, and the same as a front
front_is : (h : List Entry) (n : ℕ) → n ≤ length h → reverse (take n (reverse h)) ≡ front n h
front_is h n le =
    let xs = reverse h in
    grind (
      arith,
      common_steps,
      reverse-append (take n xs) (drop n xs),
      take-append-drop n xs,
      reverse-reverse h,
      length-reverse (drop n xs),
      length-drop n xs,
      length-reverse h,
    )

legal_behind : (s : Start) (a b : List Entry) → IsLegal s (a ++ b) → IsLegal s b
legal_behind s [] b l = l
legal_behind s (e ∷ a) b l = legal_behind s a b l.1

taken_legal : (s : Start) (n : ℕ) (xs : List Entry) → IsLegal s (reverse xs) → IsLegal s (reverse (take n xs))
taken_legal s n xs l =
    let whole : reverse (drop n xs) ++ reverse (take n xs) ≡ reverse xs =
    sym (reverse-append (take n xs) (drop n xs)) ∙ ap reverse (take-append-drop n xs) in
    legal_behind s (reverse (drop n xs)) (reverse (take n xs))
    (subst (λ (x : List Entry). IsLegal s x) (sym whole) l)

-- those before the first illegal one are legal, and of seats of the object
shown_legal : (s : Start) (h : List Entry) (j : Judgement) (most : ℕ) → IsJudgement s h j →
    IsLegal s (reverse (legal_front (verdict_of j) (take most (reverse h))))
shown_legal s h (Legal totals) most is =
    taken_legal s most (reverse h) (subst (λ (x : List Entry). IsLegal s x) (sym (reverse-reverse h)) is.0)
shown_legal s h (NotLegal w) most is =
    subst (λ (xs : List Entry). IsLegal s (reverse xs)) (take_twice most w (reverse h))
    (taken_legal s most (take w (reverse h))
    (subst (λ (x : List Entry). IsLegal s x) (sym (front_is h w (omega (arith, is.0.stands)))) is.0.legal))

seated_each : (s : Start) (xs : List Entry) → AllByRecursion (λ e. e.seat < s.header.seats) xs → AreSeated s xs
seated_each s [] all = tt
seated_each s (x ∷ xs) all = (all.0, seated_each s xs all.1)

taken_seated : (s : Start) (n : ℕ) (xs : List Entry) → All (λ e. e.seat < s.header.seats) xs →
    AreSeated s (reverse (take n xs))
taken_seated s n xs all =
    let P : Entry → Type 0 = λ e. e.seat < s.header.seats in
    seated_each s (reverse (take n xs))
    (each-reverse P (take n xs) (recursion_from_All P (take n xs) (All-take P n xs all)))

shown_seated : (v : Verdict) (n : ℕ) (kept : List Entry) → All (λ e. e.seat < n) kept →
    All (λ e. e.seat < n) (legal_front v kept)
shown_seated verdict.Legal n kept all = all
shown_seated (verdict.NotLegal w) n kept all = All-take (λ e. e.seat < n) w kept all

shown_few : (v : Verdict) (kept : List Entry) → length (legal_front v kept) ≤ length kept
shown_few verdict.Legal kept = omega arith
shown_few (verdict.NotLegal w) kept = omega (arith, length-take w kept)

wrong_within : (s : Start) (h : List Entry) (j : Judgement) → IsJudgement s h j →
    before_wrong (verdict_of j) ≤ length h
wrong_within s h (Legal totals) is = omega arith
wrong_within s h (NotLegal w) is = omega (arith, is.0.stands)

if_some : {A : Type 0} (o : Option A) (P : A → Type 0) → ((x : A) → o ≡ Some x → P x) → IfSome o P
if_some o P f = grind arith

-- ---- of what was judged

module _ (telling : Telling) (h : List Entry) (j : Judged) (k : IsJudged telling h j) where
  pub wrong_early : (v : Verdict) → v ≡ verdict_of j.judgement → before_wrong v < 2 ^ 32
  wrong_early v q =
      omega (arith, k.few, wrong_within (based j.base) h j.judgement k.judged, ap before_wrong q)

  kept_few : length j.entries.items ≤ length h
  kept_few = omega (arith, ap length k.front, length-take k.most (reverse h), length-reverse h)

  -- the entry at a place is of a seat of the object
  next_seated : (kept : List Entry) (n : ℕ) (next : Option Entry) → kept ≡ j.entries.items →
      next ≡ slice_get kept n → IfSome next (λ e. e.seat < j.base.header.seats)
  next_seated kept n next same is =
      let P : Entry → Type 0 = λ e. e.seat < j.base.header.seats in
      if_some next P (λ e q.
      let at : slice_get j.entries.items n ≡ Some e = ap (λ (xs : List Entry). slice_get xs n) (sym same) ∙ sym is ∙ q in
      subst P (get_or_from_slice_get j.entries.items n e e at) (k.seated n e (slice_get_within j.entries.items n e at)))

  -- the first entries before the first illegal one can be folded, and one after them explained
  module _ (v : Verdict) (kept xs ys : List Entry) (n : ℕ) (q : v ≡ verdict_of j.judgement) (same : kept ≡ j.entries.items)
      (is : xs ≡ legal_front v kept) (taken : ys ≡ take n xs) where
    few_shown : length ys ≤ length h
    few_shown =
        omega (arith, kept_few, ap length same, ap length is, shown_few v kept, ap length taken, length-take n xs)

    can_fold_shown : CanFold j.base (reverse ys)
    can_fold_shown =
        let shown = legal_front v j.entries.items in
        let whole : ys ≡ take n shown = taken ∙ ap (take n) (is ∙ ap (legal_front v) same) in
        let legal : IsLegal (based j.base) (reverse shown) =
        subst (λ (u : Verdict). IsLegal (based j.base) (reverse (legal_front u j.entries.items))) (sym q)
        (subst (λ (zs : List Entry). IsLegal (based j.base) (reverse (legal_front (verdict_of j.judgement) zs)))
        (sym k.front) (shown_legal (based j.base) h j.judgement k.most k.judged)) in
        subst (λ (zs : List Entry). CanFold j.base (reverse zs)) (sym whole)
        (record {
          good = k.good;
          seated = taken_seated (based j.base) n shown (shown_seated v j.base.header.seats j.entries.items k.seated);
          legal = taken_legal (based j.base) n shown legal;
        })

    pub can_explain : (all : List Entry) (m : ℕ) (next : Option Entry) → all ≡ j.entries.items →
        next ≡ slice_get all m → CanExplain j.base ys next
    can_explain all m next whole at = record {
      range = k.range;
      can = can_fold_shown;
      few = omega (arith, few_shown, k.within);
      seat = next_seated all m next whole at;
    }

-- after the first of these entries it can be explained after the others
pub goes_on : (b state : Base) (xs g h : List Entry) (next : Option Entry) → CanExplain b xs next → xs ≡ g ++ h →
    state ≡ folded b (reverse g) → ((l : List Entry) → CanFold b (l ++ reverse g) → CanFold state l) →
    CanExplain state h next
goes_on b state xs g h next k whole is goes =
    let cap : state.header.cap ≡ b.header.cap = ap (λ (y : Base). y.header.cap) is in
    record {
      range = subst (λ (y : Base). IsInRange y.header) (sym is) k.range;
      can = goes (reverse h) (subst (CanFold b) (ap reverse whole ∙ reverse-append g h) k.can);
      few = omega (arith, k.few, ap length whole, length-append g h, cap);
      seat = subst (λ (y : Base). IfSome next (λ e. e.seat < y.header.seats)) (sym is) k.seat;
    }
