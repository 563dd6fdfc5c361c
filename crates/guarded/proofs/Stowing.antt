-- The value stays with the owner: what a step with a trade leaves.
use Rattle.std.proofs.Common.{◌≡◌, ◌≢◌, ⊎_elim, ℕ, Option, ◌<◌, eqb, Bool, true, false, cond, refl, sym, ap, ◌∙◌, subst, arith, eqb-true, eq-eqb}
use Rattle.std.proofs.lemmas.Bool.{cases_eq}
use Rattle.std.specs.Option.{IfSome}
use Rattle.guarded.specs.Below.{X, Counts, is_lock, IsTurn, LetsGo}
use Rattle.guarded.specs.Prelude.{Slot, Empty, Full, Lent, IsFull, IsStowed, Kept, Rests}
use Rattle.guarded.specs.inner.Stowed.{Carries, Lies, MayLie, crosses, differ, value_in}

some_left : (n : ℕ) → eqb n 0 ≡ false → 0 < n
some_left n q =
    ⊎_elim (λ z. let t = eq-eqb n 0 z in let f : true ≡ false = sym t ∙ q in cc) (λ ne. omega (arith, ne))
    (cases_eq n 0)

-- with as many holds as before nothing crosses
alike : (b : Bool) → differ b b ≡ false
alike true = refl
alike false = refl

pub not_crossed : {A : Type 0} (before after : ℕ) (x y z : A) → before ≡ after →
    z ≡ cond (crosses before after) x y → z ≡ y
not_crossed before after x y z same is =
    is ∙ ap (λ (b : Bool). cond b x y) (ap (crosses before) (sym same) ∙ alike (eqb before 0))

module _ (i : ℕ) (f g : ℕ → ℕ) (one_f : (a b : ℕ) → 0 < f a → 0 < f b → a ≡ b)
    (one_g : (a b : ℕ) → 0 < g a → 0 < g b → a ≡ b) (others : (j : ℕ) → j ≢ i → g j ≡ f j) where
  elsewhere : (j : ℕ) → f i ≡ 0 → 0 < f j → j ≢ i
  elsewhere j z l same = let e : f j ≡ f i = ap f same in absurd (omega (arith, e, z, l))

  none_now : g i ≡ 0 → ((j : ℕ) → j ≢ i → f j ≡ 0) → (j : ℕ) → g j ≡ 0
  none_now z rest j = ⊎_elim (λ same. ap g same ∙ z) (λ ne. others j ne ∙ rest j ne) (cases_eq j i)

  alone : 0 < f i → (j : ℕ) → j ≢ i → f j ≡ 0
  alone l j ne = ⊎_elim (λ z. z) (λ some. absurd (ne (one_f j i (omega (arith, some)) l))) (cases_eq (f j) 0)

  -- what a step leaves in both places
  abbrev Leaves : {T I : Type 0} → (T → Type 0) → Slot T I → Slot T I → Slot T I → Type 0
  Leaves inv here there was =
      IsStowed g (value_in here) × MayLie inv here × Carries (g i) there × (MayLie inv was → MayLie inv there)

  free_free : {T I : Type 0} (inv : T → Type 0) → f i ≡ 0 → g i ≡ 0 → (here there : Slot T I) →
      IsStowed f (value_in here) → MayLie inv here → Carries (f i) there → Leaves inv here there there
  free_free inv a b Empty Empty s m c =
      let e = others s.0 (elsewhere s.0 a s.1) in let l = s.1 in ((s.0, omega (arith, e, l)), m, b, λ n. n)
  free_free inv a b (Full x) Empty s m c = (none_now b (λ j ne. s j), m, b, λ n. n)
  free_free inv a b (Lent p) there s m c = absurd m
  free_free inv a b here (Full y) s m c = absurd (omega (arith, a, c))
  free_free inv a b here (Lent p) s m c = absurd (omega (arith, a, c))

  comes : {T I : Type 0} (inv : T → Type 0) → f i ≡ 0 → 0 < g i → (here there : Slot T I) →
      IsStowed f (value_in here) → MayLie inv here → Carries (f i) there → Leaves inv there here there
  comes inv a b Empty there s m c =
      let ne = elsewhere s.0 a s.1 in let e = others s.0 ne in let l = s.1 in
      absurd (ne (one_g s.0 i (omega (arith, e, l)) b))
  comes inv a b (Lent p) there s m c = absurd m
  comes inv a b (Full x) Empty s m c = ((i, b), tt, b, λ n. m)
  comes inv a b (Full x) (Full y) s m c = absurd (omega (arith, a, c))
  comes inv a b (Full x) (Lent p) s m c = absurd (omega (arith, a, c))

  goes : {T I : Type 0} (inv : T → Type 0) → 0 < f i → g i ≡ 0 → (here there : Slot T I) →
      IsStowed f (value_in here) → MayLie inv here → Carries (f i) there → MayLie inv there →
      Leaves inv there here there
  goes inv a b (Full x) there s m c n = let z = s i in absurd (omega (arith, a, z))
  goes inv a b (Lent p) there s m c n = absurd m
  goes inv a b Empty Empty s m c n = absurd (omega (arith, a, c))
  goes inv a b Empty (Full y) s m c n = (none_now b (alone a), n, b, λ k. tt)
  goes inv a b Empty (Lent p) s m c n = absurd n

  stays : {T I : Type 0} (inv : T → Type 0) → 0 < f i → 0 < g i → (here there : Slot T I) →
      IsStowed f (value_in here) → MayLie inv here → Carries (f i) there → Leaves inv here there there
  stays inv a b (Full x) there s m c = let z = s i in absurd (omega (arith, a, z))
  stays inv a b (Lent p) there s m c = absurd m
  stays inv a b Empty Empty s m c = absurd (omega (arith, a, c))
  stays inv a b Empty (Full y) s m c = ((i, b), m, b, λ n. n)
  stays inv a b Empty (Lent p) s m c = ((i, b), m, b, λ n. n)

  pub traded : {T I : Type 0} (inv : T → Type 0) (here there : Slot T I) → IsStowed f (value_in here) →
      MayLie inv here → Carries (f i) there → (0 < f i → g i ≡ 0 → MayLie inv there) →
      Leaves inv (cond (crosses (f i) (g i)) there here) (cond (crosses (f i) (g i)) here there) there
  traded {T} {I} inv here there s m c owed = by (eqb (f i) 0) (eqb (g i) 0) refl refl
    where
      by : (x y : Bool) → eqb (f i) 0 ≡ x → eqb (g i) 0 ≡ y →
          Leaves inv (cond (differ x y) there here) (cond (differ x y) here there) there
      by true true p q = free_free inv (eqb-true (f i) 0 p) (eqb-true (g i) 0 q) here there s m c
      by true false p q = comes inv (eqb-true (f i) 0 p) (some_left (g i) q) here there s m c
      by false true p q =
          let some = some_left (f i) p in let none = eqb-true (g i) 0 q in
          goes inv some none here there s m c (owed some none)
      by false false p q = stays inv (some_left (f i) p) (some_left (g i) q) here there s m c

-- a turn of the lock with a trade
pub moved : {T I : Type 0} (inv : T → Type 0) (i : ℕ) (k l : Counts) (t : IsTurn i k l) → (b a : ℕ) →
    b ≡ k.held i X → a ≡ l.held i X → (here there here' there' : Slot T I) → here' ≡ cond (crosses b a) there here →
    there' ≡ cond (crosses b a) here there → Lies inv here k → Carries (k.held i X) there →
    (LetsGo t.step (k.held i) → MayLie inv there) →
    Lies inv here' l × Carries (l.held i X) there' × (MayLie inv there → MayLie inv there')
moved {T} {I} inv i k l t b a before after here there here' there' h th lies c owed =
    let r = lies.0 in
    let lock : is_lock l.object ≡ true = ap is_lock t.object ∙ r.lock in
    let x = traded i (λ j. k.held j X) (λ j. l.held j X) (t.before r.lock).one (t.after r.lock).one
    (λ j ne. t.others j X ne) inv here there r.stowed lies.1 c (λ some none. owed (t.ends r.lock some none)) in
    let same : crosses b a ≡ crosses (k.held i X) (l.held i X) = λ d. crosses (before d) (after d) in
    let at = sym (h ∙ ap (λ w. cond w there here) same) in
    let to = sym (th ∙ ap (λ w. cond w here there) same) in (
      (
        record {
          lock = lock;
          stowed = subst (λ (z : Slot T I). IsStowed (λ j. l.held j X) (value_in z)) at x.0;
        },
        subst (λ (z : Slot T I). MayLie inv z) at x.1,
      ),
      subst (λ (z : Slot T I). Carries (l.held i X) z) to x.2,
      subst (λ (z : Slot T I). MayLie inv there → MayLie inv z) to x.3,
    )

pub rests_as : {T : Type 0} (v w : Option T) (k : Counts) → w ≡ v → Rests v k → Rests w k
rests_as {T} v w k q r = subst (λ (z : Option T). Rests z k) (sym q) r

-- what meets the invariant may lie under the lock, and what may lie there meets it
pub may_lie : {T I : Type 0} (inv : T → Type 0) (slot : Slot T I) → IsFull slot → Kept inv slot → MayLie inv slot
may_lie inv (Full x) there kept = kept x refl
may_lie inv Empty there kept = absurd there
may_lie inv (Lent p) there kept = absurd there

pub kept_so : {T I : Type 0} (inv : T → Type 0) (slot : Slot T I) → MayLie inv slot → Kept inv slot
kept_so inv (Full x) may y is = let same : x ≡ y = cc in subst inv same may
kept_so inv Empty may y is = cc
kept_so inv (Lent p) may y is = absurd may

-- who holds has the value
pub has_value : {T I : Type 0} (inv : T → Type 0) (n : ℕ) (slot : Slot T I) → MayLie inv slot → Carries n slot →
    0 < n → IsFull slot
has_value inv n Empty may carries some = absurd (omega (arith, carries, some))
has_value inv n (Full x) may carries some = tt
has_value inv n (Lent p) may carries some = absurd may

pub kept_value : {T I : Type 0} (inv : T → Type 0) (slot : Slot T I) → MayLie inv slot → IfSome (value_in slot) inv
kept_value inv Empty may = tt
kept_value inv (Full x) may = may
kept_value inv (Lent p) may = tt

pub value_as : {T : Type 0} (inv : T → Type 0) (v w : Option T) → w ≡ v → IfSome v inv → IfSome w inv
value_as {T} inv v w q is = subst (λ (z : Option T). IfSome z inv) (sym q) is
