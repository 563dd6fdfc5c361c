-- That what the tables of holds stand for follows each entry.
use Rattle.std.proofs.Common.{◌≡◌, ⊎_elim, ℕ, ◌+◌, ◌-◌, ◌<◌, ◌≤◌, Bool, true, false, cond, ltb, List, [], ◌∷◌, length, get_or, set, Option, Some, None, refl, ap, ◌∙◌, sym, arith, eq-eqb, ne_eqb, ltb-true, ltb-false}
use Rattle.std.proofs.lemmas.Bool.{cases_eq}
use Rattle.std.proofs.Math.ListN.{length-set}
use Rattle.audit.specs.Below.{Entry, X, S, Word, Object, is_seat, counts, held, holds_after, owner, readers, same_mode, MOST_BASE_PERMITS, is_lock, Header, Start, opening}
use Rattle.history.proofs.Owners.{seat_with_found, seat_with_nobody}
use Rattle.history.proofs.SleepLemmas.{held_other}
use Rattle.history.proofs.Sums.{seat_with_none, total_change, total_nothing, total_same}
use Rattle.history.proofs.Times.{total_part}
use Rattle.audit.specs.declared.holds.Holds.{Holds}
use Rattle.deciding.proofs.HoldsFollow.{bound_follows, holds_more, table_follows}
use Rattle.audit.specs.Holds.{HoldsStand}
use Rattle.audit.specs.inner.Holds.{IsOnlyOwner, owner_after}
use Rattle.audit.proofs.HoldsLemmas.{held_here, held_other_mode, seat_with_same, seat_with_zero, seat_with_only}

-- the owner behind an entry in mode X, where nobody owns beside another
owner_follows : (s : Start) (e : Entry) (h : List Entry) (was : Option ℕ) → e.seat < s.header.seats →
    same_mode e.mode X ≡ true → IsOnlyOwner s h → IsOnlyOwner s (e ∷ h) → was ≡ owner (counts s h) →
    owner_after was e.seat (held s (e ∷ h) e.seat X) ≡ owner (counts s (e ∷ h))
owner_follows s e h was seat mode old new is = by (ltb 0 (held s (e ∷ h) e.seat X)) refl
  where
    has_none : ltb 0 (held s (e ∷ h) e.seat X) ≡ false → held s (e ∷ h) e.seat X ≡ 0
    has_none t = omega (arith, ltb-false 0 (held s (e ∷ h) e.seat X) t)

    all_zero : (j : ℕ) → was ≡ Some j → e.seat ≡ j → ltb 0 (held s (e ∷ h) e.seat X) ≡ false → (i : ℕ) →
        held s (e ∷ h) i X ≡ 0
    all_zero j o q t i =
        let had : 0 < held s h j X = (seat_with_found s.header.seats (λ i. held s h i X) j (sym is ∙ o)).1 in
        ⊎_elim (λ x. ap (λ i. held s (e ∷ h) i X) (sym x) ∙ has_none t)
        (λ ne. held_other s e h i X ne ∙ old j i had (λ x. ne (q ∙ x))) (cases_eq e.seat i)

    stays : (j : ℕ) → was ≡ Some j → (e.seat ≡ j → ⊥) → owner (counts s (e ∷ h)) ≡ Some j
    stays j o ne =
        let had = seat_with_found s.header.seats (λ i. held s h i X) j (sym is ∙ o) in
        let now : held s (e ∷ h) j X ≡ held s h j X = held_other s e h j X ne in
        let some : 0 < held s (e ∷ h) j X = omega (arith, had.1, now) in
        seat_with_only s.header.seats (λ i. held s (e ∷ h) i X) j had.0 some (λ i d. new j i some d)

    empty : was ≡ None → ltb 0 (held s (e ∷ h) e.seat X) ≡ false → owner (counts s (e ∷ h)) ≡ None
    empty o t = seat_with_zero s.header.seats (λ i. held s (e ∷ h) i X) (λ i l.
        ⊎_elim (λ x. ap (λ i. held s (e ∷ h) i X) (sym x) ∙ has_none t)
        (λ ne. held_other s e h i X ne
        ∙ seat_with_nobody s.header.seats (λ i. held s h i X) i (sym is ∙ o) l) (cases_eq e.seat i))

    gone : (o : Option ℕ) → was ≡ o → ltb 0 (held s (e ∷ h) e.seat X) ≡ false →
        cond (is_seat o e.seat) None o ≡ owner (counts s (e ∷ h))
    gone None o t = sym (empty o t)
    gone (Some j) o t =
        ⊎_elim
        (λ (q : j ≡ e.seat). rw (eq-eqb j e.seat q)
        (sym (seat_with_zero s.header.seats (λ i. held s (e ∷ h) i X) (λ i l. all_zero j o (sym q) t i))))
        (λ ne. rw (ne_eqb j e.seat ne) (sym (stays j o (λ q. ne (sym q))))) (cases_eq j e.seat)

    by : (b : Bool) → ltb 0 (held s (e ∷ h) e.seat X) ≡ b →
        cond b (Some e.seat) (cond (is_seat was e.seat) None was) ≡ owner (counts s (e ∷ h))
    by true t =
        let some : 0 < held s (e ∷ h) e.seat X = ltb-true _ _ t in
        sym (seat_with_only s.header.seats (λ i. held s (e ∷ h) i X) e.seat seat some
        (λ i d. new e.seat i some d))
    by false t = gone was refl t

-- an entry in mode X
pub stands_exclusive : (s : Start) (e : Entry) (h : List Entry) (old new : Holds) → HoldsStand s h old →
    e.seat < s.header.seats → e.mode ≡ X → e.n ≤ 4294967295
    → (is_lock s.header.object ≡ true → IsOnlyOwner s h × IsOnlyOwner s (e ∷ h))
    → new.exclusive.items ≡ set old.exclusive.items e.seat (holds_after s.header.object e.word e.n
    (get_or old.exclusive.items e.seat 0))
    → new.shared.items ≡ old.shared.items
    → new.owner ≡ owner_after old.owner e.seat (holds_after s.header.object e.word e.n
    (get_or old.exclusive.items e.seat 0))
    → new.readers ≡ old.readers → HoldsStand s (e ∷ h) new
stands_exclusive s e h old new st seat mode amount only x sh ow re =
    let same : same_mode e.mode X ≡ true = rw mode refl in
    let other : same_mode e.mode S ≡ false = rw mode refl in
    let table : (i : ℕ) → get_or new.exclusive.items i 0 ≡ held s (e ∷ h) i X =
    λ i. ap (λ t. get_or t i 0) x ∙ table_follows s e h X old.exclusive.items true same
    (omega (arith, seat, st.exclusive_seats)) st.exclusive i in
    let has : holds_after s.header.object e.word e.n (get_or old.exclusive.items e.seat 0)
    ≡ held s (e ∷ h) e.seat X = ap (holds_after s.header.object e.word e.n) (st.exclusive e.seat)
    ∙ sym (held_here s e h e.seat X refl same) in
    record {
      exclusive_seats = ap length x ∙ length-set _ _ _ ∙ st.exclusive_seats;
      shared_seats = ap length sh ∙ st.shared_seats;
      exclusive = table;
      shared = λ i. ap (λ t. get_or t i 0) sh ∙ table_follows s e h S old.shared.items false other
          (omega (arith, seat, st.shared_seats)) st.shared i;
      owns = λ l. ow ∙ ap (owner_after old.owner e.seat) has
          ∙ owner_follows s e h old.owner seat same (only l).0 (only l).1 (st.owns l);
      reads = re ∙ st.reads ∙ total_same s.header.seats (λ i. held s h i S) (λ i. held s (e ∷ h) i S)
          (λ i. sym (held_other_mode s e h i S other));
      exclusive_bound = bound_follows MOST_BASE_PERMITS s e h X amount st.exclusive_bound;
      shared_bound = let a : readers (counts s (e ∷ h)) ≡ readers (counts s h) =
          total_same s.header.seats (λ i. held s (e ∷ h) i S) (λ i. held s h i S)
          (λ i. held_other_mode s e h i S other) in omega (arith, a, st.shared_bound);
    }

-- an entry in mode S
pub stands_shared : (s : Start) (e : Entry) (h : List Entry) (old new : Holds) → HoldsStand s h old →
    e.seat < s.header.seats → e.mode ≡ S → e.n ≤ 4294967295
    → new.shared.items ≡ set old.shared.items e.seat (holds_after s.header.object e.word e.n
    (get_or old.shared.items e.seat 0))
    → new.exclusive.items ≡ old.exclusive.items → new.owner ≡ old.owner
    → new.readers ≡ old.readers - get_or old.shared.items e.seat 0 + holds_after s.header.object e.word e.n
    (get_or old.shared.items e.seat 0)
    → HoldsStand s (e ∷ h) new
stands_shared s e h old new st seat mode amount sh x ow re =
    let same : same_mode e.mode S ≡ true = rw mode refl in
    let other : same_mode e.mode X ≡ false = rw mode refl in
    let had : get_or old.shared.items e.seat 0 ≡ held s h e.seat S = st.shared e.seat in
    let has : holds_after s.header.object e.word e.n (get_or old.shared.items e.seat 0)
    ≡ held s (e ∷ h) e.seat S = ap (holds_after s.header.object e.word e.n) had
    ∙ sym (held_here s e h e.seat S refl same) in
    let part : held s h e.seat S ≤ readers (counts s h) =
    total_part s.header.seats (λ i. held s h i S) e.seat seat in
    let change : readers (counts s (e ∷ h)) + held s h e.seat S
    ≡ readers (counts s h) + held s (e ∷ h) e.seat S =
    total_change s.header.seats (λ i. held s (e ∷ h) i S) (λ i. held s h i S) e.seat seat
    (λ i ne. held_other s e h i S (λ q. ne (sym q))) in
    let more = holds_more s.header.object e.word e.n (get_or old.shared.items e.seat 0) amount in
    record {
      exclusive_seats = ap length x ∙ st.exclusive_seats;
      shared_seats = ap length sh ∙ length-set _ _ _ ∙ st.shared_seats;
      exclusive = λ i. ap (λ t. get_or t i 0) x ∙ table_follows s e h X old.exclusive.items false other
          (omega (arith, seat, st.exclusive_seats)) st.exclusive i;
      shared = λ i. ap (λ t. get_or t i 0) sh ∙ table_follows s e h S old.shared.items true same
          (omega (arith, seat, st.shared_seats)) st.shared i;
      owns = λ l. ow ∙ st.owns l ∙ seat_with_same s.header.seats (λ i. held s h i X)
          (λ i. held s (e ∷ h) i X) (λ i b. sym (held_other_mode s e h i X other));
      reads = omega (arith, re, had, has, part, change, st.reads);
      exclusive_bound = bound_follows MOST_BASE_PERMITS s e h X amount st.exclusive_bound;
      shared_bound = omega (arith, had, has, part, change, more, st.shared_bound);
    }

-- the holds of one seat fit 128 bits with an entry more
pub exclusive_fits : (s : Start) (h : List Entry) (holds : Holds) (o : Object) (w : Word) (n i v : ℕ) →
    HoldsStand s h holds → length h + 1 < 4294967296 → n ≤ 4294967295 → v ≡ get_or holds.exclusive.items i 0 →
    holds_after o w n v < 340282366920938463463374607431768211456
exclusive_fits s h holds o w n i v st l b is =
    let had : get_or holds.exclusive.items i 0 ≡ held s h i X = st.exclusive i in
    omega (arith, is, had, l, st.exclusive_bound i, holds_more o w n v b)

pub shared_fits : (s : Start) (h : List Entry) (holds : Holds) (o : Object) (w : Word) (n i v : ℕ) →
    HoldsStand s h holds → i < s.header.seats → length h + 1 < 4294967296 → n ≤ 4294967295 →
    v ≡ get_or holds.shared.items i 0 →
    (holds_after o w n v < 340282366920938463463374607431768211456) × (v ≤ holds.readers)
shared_fits s h holds o w n i v st seat l b is =
    let part : held s h i S ≤ readers (counts s h) =
    total_part s.header.seats (λ j. held s h j S) i seat in
    let had : get_or holds.shared.items i 0 ≡ held s h i S = st.shared i in (
      omega (arith, is, had, part, st.shared_bound, l, holds_more o w n v b),
      omega (arith, is, had, part, st.reads),
    )

-- nobody holds anything at the opening
pub stands_opened : (k : Header) (holds : Holds) → length holds.exclusive.items ≡ k.seats →
    length holds.shared.items ≡ k.seats → ((i : ℕ) → get_or holds.exclusive.items i 0 ≡ 0) →
    ((i : ℕ) → get_or holds.shared.items i 0 ≡ 0) → holds.owner ≡ None → holds.readers ≡ 0 →
    HoldsStand (opening k) [] holds
stands_opened k holds x sh zx zs ow re =
    record {
      exclusive_seats = x;
      shared_seats = sh;
      exclusive = zx;
      shared = zs;
      owns = λ l. ow ∙ sym (seat_with_none k.seats (λ i. 0) (λ i. refl));
      reads = re ∙ sym (total_nothing k.seats);
      exclusive_bound = λ i. omega arith;
      shared_bound = omega (arith, total_nothing k.seats);
    }
