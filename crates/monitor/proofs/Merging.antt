-- The passes of all seats: their shares together are the calls of the history.
use Rattle.std.proofs.Common.{◌≡◌, ⊎_elim, ◌==◌, ℕ, zero, suc, ◌+◌, ◌<◌, ◌≤◌, ltb, Bool, true, false, cond, List, [], ◌∷◌, ◌++◌, length, refl, sym, ap, ◌∙◌, subst, arith, eq-eqb, eqb-true, le-ltb, lt-ltb, ne_eqb}
use Rattle.std.specs.List.{All}
use Rattle.std.proofs.lemmas.Bool.{cases_eq, cases_lt}
use Rattle.std.proofs.lemmas.List.Elements.{All-nil, All-cons, All-head, All-tail, All-weaker}
use mathlib.Core.Option.{some}
use lib.ListN.{get_elem?}
use Rattle.monitor.specs.Below.{based, calls_of, total, AreSeated, calls, Point, SeatLog, Before, Agrees, LockId, AllAgree, AreDistinct}
use Rattle.history.specs.Point as points
use Rattle.history.proofs.Folding.{calls_counted}
use Rattle.history.proofs.Points.{calls_by_seat}
use Rattle.word_lock.proofs.PointLaws.{before_trans}
use Rattle.monitor.specs.Prelude.{Shown, IsSound, IsWithin, shares, passes_of, IsMissing}

abbrev pub log_of : Shown → SeatLog
log_of p = record { seat = p.seat; entries = p.mine }

abbrev pub logs_of : List Shown → List SeatLog
logs_of [] = []
logs_of (p ∷ ps) = record { seat = p.seat; entries = p.mine } ∷ logs_of ps

-- a number for the seat of each pass, together
by_passes : (ℕ → ℕ) → List Shown → ℕ
by_passes f [] = 0
by_passes f (p ∷ ps) = f p.seat + by_passes f ps

-- the same of the seats below n
part : (ℕ → ℕ) → ℕ → Shown → ℕ
part f n p = cond (ltb p.seat n) (f p.seat) 0

by_below : (ℕ → ℕ) → ℕ → List Shown → ℕ
by_below f n [] = 0
by_below f n (p ∷ ps) = by_below f n ps + part f n p

times : ℕ → ℕ → ℕ
times zero x = 0
times (suc k) x = times k x + x

times_more : (b : Bool) (k x : ℕ) → times (k + cond b 1 0) x ≡ times k x + cond b x 0
unfolding times
times_more true k x = let e : k + 1 ≡ suc k = omega arith in ap (λ m. times m x) e
times_more false k x = let e : k + 0 ≡ k = omega arith in
    let z : times k x + 0 ≡ times k x = omega arith in ap (λ m. times m x) e ∙ sym z

part_more : (f : ℕ → ℕ) (n : ℕ) (p : Shown) → part f (suc n) p ≡ part f n p + cond (n == p.seat) (f n) 0
unfolding part
part_more f n p =
    ⊎_elim
    (λ (less : p.seat < n).
    let here = lt-ltb p.seat (suc n) (omega (arith, less)) in
    let there = lt-ltb p.seat n less in
    let apart : (n == p.seat) ≡ false = ne_eqb n p.seat (λ is. absurd (omega (arith, is, less))) in
    let z : f p.seat ≡ f p.seat + 0 = omega arith in
    rw (here, there, apart) z)
    (λ (more : n ≤ p.seat). ⊎_elim (λ (same : n ≡ p.seat).
    let here = lt-ltb p.seat (suc n) (omega (arith, same)) in
    let there = le-ltb p.seat n (omega (arith, same)) in
    let on : (n == p.seat) ≡ true = eq-eqb n p.seat same in
    let z : f p.seat ≡ 0 + f n = let q = ap f same in omega (arith, q) in
    rw (here, there, on) z)
    (λ ne.
    let here = le-ltb p.seat (suc n) (omega (arith, ne, more)) in
    let there = le-ltb p.seat n more in
    let off : (n == p.seat) ≡ false = ne_eqb n p.seat ne in
    rw (here, there, off) refl)
    (cases_eq n p.seat))
    (cases_lt p.seat n)

below_more : (f : ℕ → ℕ) (n : ℕ) (ps : List Shown) →
    by_below f (suc n) ps ≡ by_below f n ps + times (passes_of n ps) (f n)
unfolding by_below times
below_more f n [] = refl
below_more f n (p ∷ ps) =
    let ih = below_more f n ps in
    let one = part_more f n p in
    let more = times_more (n == p.seat) (passes_of n ps) (f n) in
    omega (arith, ih, one, more)

below_none : (f : ℕ → ℕ) (ps : List Shown) → by_below f 0 ps ≡ 0
unfolding by_below part
below_none f [] = refl
below_none f (p ∷ ps) =
    let ih = below_none f ps in
    let none : cond (ltb p.seat 0) (f p.seat) 0 ≡ 0 =
    ap (λ b. cond b (f p.seat) 0) (le-ltb p.seat 0 (omega arith)) in
    omega (arith, ih, none)

below_total : (f : ℕ → ℕ) (n : ℕ) (ps : List Shown) → ((i : ℕ) → i < n → passes_of i ps ≡ 1) →
    by_below f n ps ≡ total n f
unfolding times
below_total f zero ps each = below_none f ps
below_total f (suc n) ps each =
    let ih = below_total f n ps (λ i l. each i (omega (arith, l))) in
    let more = below_more f n ps in
    let one : times (passes_of n ps) (f n) ≡ 0 + f n = ap (λ k. times k (f n)) (each n (omega arith)) in
    omega (arith, ih, more, one)

all_below : (f : ℕ → ℕ) (n : ℕ) (ps : List Shown) → All (λ p. p.seat < n) ps →
    by_below f n ps ≡ by_passes f ps
unfolding by_below by_passes part
all_below f n [] all = refl
all_below f n (p ∷ ps) all =
    let ih = all_below f n ps (All-tail (λ p. p.seat < n) p ps all) in
    let here : cond (ltb p.seat n) (f p.seat) 0 ≡ f p.seat =
    ap (λ b. cond b (f p.seat) 0) (lt-ltb p.seat n (All-head (λ p. p.seat < n) p ps all)) in
    omega (arith, ih, here)

-- a share is what the base and the entries after it have of the seat
shares_in : (q : Point) (ps : List Shown) → All (λ p. IsSound p) ps → All (λ p. Agrees q p.seat p.mine) ps →
    shares ps ≡ by_passes (calls_of q.base q.entries) ps
unfolding by_passes Agrees
shares_in q [] t agree = refl
shares_in q (p ∷ ps) t agree =
    let here : IsSound p = All-head (λ p. IsSound p) p ps t in
    let a : points.Agrees q p.seat p.mine = All-head (λ p. points.Agrees q p.seat p.mine) p ps agree in
    let share : p.share ≡ calls_of q.base q.entries p.seat =
    here.counted ∙ sym a.calls ∙ sym (calls_by_seat q.base q.entries p.seat) in
    let ih = shares_in q ps (All-tail (λ p. IsSound p) p ps t) (All-tail (λ p. points.Agrees q p.seat
    p.mine) p ps
    agree) in
    omega (arith, share, ih)

pub shares_are_calls : (q : Point) (ps : List Shown) → AreSeated (based q.base) q.entries →
    All (λ p. p.seat < q.base.header.seats) ps →
    ((i : ℕ) → i < q.base.header.seats → passes_of i ps ≡ 1) → All (λ p. IsSound p) ps →
    All (λ p. Agrees q p.seat p.mine) ps → shares ps ≡ calls (based q.base) q.entries
shares_are_calls q ps seated below each t agree =
    let f = calls_of q.base q.entries in
    shares_in q ps t agree ∙ sym (all_below f q.base.header.seats ps below)
    ∙ below_total f q.base.header.seats ps each ∙ calls_counted q.base q.entries seated

-- the passes of the seats below n
counted : ℕ → List Shown → ℕ
counted zero ps = 0
counted (suc n) ps = counted n ps + passes_of n ps

counted_none : (n : ℕ) → counted n [] ≡ 0
unfolding counted
counted_none zero = refl
counted_none (suc n) = let h = counted_none n in let goal : counted n [] + 0 ≡ 0 = omega (arith, h) in goal

counted_above : (n : ℕ) (p : Shown) (ps : List Shown) → n ≤ p.seat → counted n (p ∷ ps) ≡ counted n ps
unfolding counted
counted_above zero p ps h = refl
counted_above (suc n) p ps h =
    let up = counted_above n p ps (omega (arith, h)) in
    let apart : (n == p.seat) ≡ false = ne_eqb n p.seat (λ is. absurd (omega (arith, is, h))) in
    let none : passes_of n (p ∷ ps) ≡ passes_of n ps + 0 =
    ap (λ (b : Bool). passes_of n ps + cond b 1 0) apart in
    let goal : counted n (p ∷ ps) + passes_of n (p ∷ ps) ≡ counted n ps + passes_of n ps =
    omega (arith, up, none) in goal

apart : (a b : ℕ) → (a == b) ≡ false → a ≡ b → ⊥
apart a b off is = let on = eq-eqb a b is in cc

counted_below : (n : ℕ) (p : Shown) (ps : List Shown) → p.seat < n → counted n (p ∷ ps) ≡ suc (counted n ps)
unfolding counted
counted_below zero p ps h = absurd (omega (arith, h))
counted_below (suc n) p ps h = by (n == p.seat) refl (λ below. counted_below n p ps below)
  where
    by : (b : Bool) → (n == p.seat) ≡ b → (p.seat < n → counted n (p ∷ ps) ≡ suc (counted n ps)) →
        counted n (p ∷ ps) + passes_of n (p ∷ ps) ≡ suc (counted n ps + passes_of n ps)
    by true is up_to =
        let same : n ≡ p.seat = eqb-true n p.seat is in
        let up = counted_above n p ps (omega (arith, same)) in
        let one : passes_of n (p ∷ ps) ≡ passes_of n ps + 1 =
        ap (λ (b : Bool). passes_of n ps + cond b 1 0) is in
        omega (arith, up, one)
    by false is up_to =
        let other = apart n p.seat is in
        let below : p.seat < n = omega (arith, other, h) in
        let up = up_to below in
        let none : passes_of n (p ∷ ps) ≡ passes_of n ps + 0 =
        ap (λ (b : Bool). passes_of n ps + cond b 1 0) is in
        omega (arith, up, none)

counted_length : (n : ℕ) (ps : List Shown) → All (λ p. p.seat < n) ps → counted n ps ≡ length ps
counted_length n [] a = counted_none n
counted_length n (p ∷ ps) a =
    counted_below n p ps (All-head (λ p. p.seat < n) p ps a)
    ∙ ap suc (counted_length n ps (All-tail (λ p. p.seat < n) p ps a))

missing_below : (n : ℕ) (ps : List Shown) → counted n ps < n → IsMissing n ps
unfolding counted
missing_below zero ps h = absurd (omega (arith, h))
missing_below (suc n) ps h = by (passes_of n ps) refl (λ few. missing_below n ps few)
  where
    by : (k : ℕ) → passes_of n ps ≡ k → (counted n ps < n → IsMissing n ps) → IsMissing (suc n) ps
    by zero is up_to = (n, omega arith, is)
    by (suc k) is up_to = let m = up_to (omega (arith, is, h)) in
        let below = m.1 in (m.0, omega (arith, below), m.2)

-- fewer passes than seats: some seat's pass isn't there
pub some_missing : (n : ℕ) (ps : List Shown) → All (λ p. p.seat < n) ps → length ps < n → IsMissing n ps
some_missing n ps a h = let c = counted_length n ps a in missing_below n ps (omega (arith, c, h))

counted_most : (n : ℕ) (ps : List Shown) → ((i : ℕ) → passes_of i ps ≤ 1) → counted n ps ≤ n
unfolding counted
counted_most zero ps f = omega arith
counted_most (suc n) ps f = let h = counted_most n ps f in let m = f n in
    let goal : counted n ps + passes_of n ps ≤ suc n = omega (arith, h, m) in goal

each_below : (n : ℕ) (ps : List Shown) → ((i : ℕ) → passes_of i ps ≤ 1) → n ≤ counted n ps →
    (i : ℕ) → i < n → passes_of i ps ≡ 1
unfolding counted
each_below zero ps f h i below = absurd (omega (arith, below))
each_below (suc n) ps f h i below = by (i == n) refl (λ many less. each_below n ps f many i less)
  where
    by : (b : Bool) → (i == n) ≡ b → (n ≤ counted n ps → i < n → passes_of i ps ≡ 1) → passes_of i ps ≡ 1
    by true is up_to =
        let most = counted_most n ps f in let one = f n in
        subst (λ (k : ℕ). passes_of k ps ≡ 1) (sym (eqb-true i n is)) (omega (arith, most, one, h))
    by false is up_to = let one = f n in let other = apart i n is in
        up_to (omega (arith, one, h)) (omega (arith, other, below))

-- at least as many passes as seats, none twice: each seat's pass is there
pub each_once : (n : ℕ) (ps : List Shown) → All (λ p. p.seat < n) ps → ((i : ℕ) → passes_of i ps ≤ 1) →
    n ≤ length ps → (i : ℕ) → i < n → passes_of i ps ≡ 1
each_once n ps a f h = let c = counted_length n ps a in each_below n ps f (omega (arith, c, h))

none_of : (i : ℕ) (ps : List Shown) →
    ((k : ℕ) (l : SeatLog) → get_elem? (logs_of ps) k ≡ some l → (i ≡ l.seat) → ⊥) → passes_of i ps ≡ 0
none_of i [] f = refl
none_of i (p ∷ ps) f =
    let apart : (i == p.seat) ≡ false = ne_eqb i p.seat (f 0 (log_of p) refl) in
    let rest = none_of i ps (λ k l at. f (suc k) l at) in
    let none : passes_of i (p ∷ ps) ≡ passes_of i ps + 0 =
    ap (λ (b : Bool). passes_of i ps + cond b 1 0) apart in
    omega (arith, rest, none)

-- no two logs are of one seat, so no two passes are
pub none_twice : (ps : List Shown) → AreDistinct (logs_of ps) → (i : ℕ) → passes_of i ps ≤ 1
none_twice [] d i = omega arith
none_twice (p ∷ ps) d i =
    by (i == p.seat) refl
    (none_twice ps (λ j k l m a b own. let s = d (suc j) (suc k) l m a b own in omega (arith, s)) i)
  where
    by : (b : Bool) → (i == p.seat) ≡ b → passes_of i ps ≤ 1 → passes_of i (p ∷ ps) ≤ 1
    by true is up =
        let none = none_of i ps (λ k l at own. absurd (omega (
          arith,
          d 0 (suc k) (log_of p) l refl at
              (sym (eqb-true i p.seat is) ∙ own),
        ))) in
        let one : passes_of i (p ∷ ps) ≡ passes_of i ps + 1 =
        ap (λ (b : Bool). passes_of i ps + cond b 1 0) is in
        omega (arith, none, one)
    by false is up =
        let none : passes_of i (p ∷ ps) ≡ passes_of i ps + 0 =
        ap (λ (b : Bool). passes_of i ps + cond b 1 0) is in
        omega (arith, up, none)

pub all_agree : (q : Point) (ps : List Shown) → AllAgree q (logs_of ps) → All (λ p. Agrees q p.seat p.mine) ps
all_agree q [] a = All-nil (λ p. Agrees q p.seat p.mine)
all_agree q (p ∷ ps) a =
    All-cons (λ p. Agrees q p.seat p.mine) p ps (a 0 (log_of p) refl)
    (all_agree q ps (λ k l at. a (suc k) l at))

-- the sum so far, with one more pass
pub shares_more : (p : Shown) (ps all : List Shown) (sum more total : ℕ) → all ≡ p ∷ ps → more ≡ p.share →
    sum + shares all ≡ total → (sum + more) + shares ps ≡ total
shares_more p ps all sum more total cut is h =
    let whole : shares all ≡ p.share + shares ps = ap shares cut in omega (arith, whole, is, h)

pub all_true_more : (p : Shown) (ps all : List Shown) → all ≡ p ∷ ps → IsSound p → All (λ p. IsSound p) ps →
    All (λ p. IsSound p) all
all_true_more p ps all cut t h =
    subst (λ (l : List Shown). All (λ p. IsSound p) l) (sym cut) (All-cons (λ p. IsSound p) p ps t h)

pub all_last : (P : Shown → Type 0) (all ps : List Shown) (p : Shown) → all ≡ ps ++ p ∷ [] →
    All P all → All P ps × P p
all_last P all ps p cut a = by ps (subst (All P) cut a)
  where
    by : (ps : List Shown) → All P (ps ++ p ∷ []) → All P ps × P p
    by [] a = (All-nil P, All-head P p [] a)
    by (x ∷ xs) a = let r = by xs (All-tail P x (xs ++ p ∷ []) a) in
        (All-cons P x xs (All-head P x (xs ++ p ∷ []) a) r.0, r.1)

pub seats_below : (lock : LockId) (ps : List Shown) → All (λ p. IsSound p) ps → All (λ p. p.lock ≡ lock) ps →
    All (λ p. p.seat < lock.header.seats) ps
seats_below lock [] t own = All-nil (λ p. p.seat < lock.header.seats)
seats_below lock (p ∷ ps) t own =
    let here : IsSound p = All-head (λ p. IsSound p) p ps t in
    let of : p.lock ≡ lock = All-head (λ p. p.lock ≡ lock) p ps own in
    All-cons (λ p. p.seat < lock.header.seats) p ps (subst
    (λ (l : LockId). p.seat < l.header.seats) of here.below)
    (seats_below lock ps (All-tail (λ p. IsSound p) p ps t) (All-tail (λ p. p.lock ≡ lock) p ps own))

pub all_seen : (one two : Point) (ps : List Shown) → Before one two → All (λ p. Before p.seen one) ps →
    All (λ p. Before p.seen two) ps
all_seen one two ps on a =
    All-weaker (λ (p : Shown). Before p.seen one) (λ (p : Shown). Before p.seen two)
    (λ p b. before_trans p.seen one two b on) ps a

pub all_within : (q : Point) (ps : List Shown) → All (λ p. Before p.seen q) ps →
    All (λ p. Agrees q p.seat p.mine) ps →
    All (λ p. IsWithin q p) ps
all_within q [] b a = All-nil (λ p. IsWithin q p)
all_within q (p ∷ ps) b a =
    All-cons (λ p. IsWithin q p) p ps
    (All-head (λ p. Before p.seen q) p ps b, All-head (λ p. Agrees q p.seat p.mine) p ps a)
    (all_within q ps (All-tail (λ p. Before p.seen q) p ps b) (All-tail (λ p. Agrees q p.seat p.mine) p ps a))
