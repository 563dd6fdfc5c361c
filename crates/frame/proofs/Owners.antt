-- What a take, a give and the like make of an owner and its holds.
use Rattle.std.proofs.Common.{◌≡◌, ◌≢◌, ⊎_elim, ℕ, ◌+◌, ◌-◌, ◌<◌, ◌≤◌, Bool, true, false, ◌&&◌, cond, eqb, Option, Some, None, refl, ap, ◌∙◌, sym, subst, arith, zero-add, ltb-true, leb-true, eqb-true, ne_eqb, eq-eqb, lt-ltb, le-leb}
use Rattle.std.proofs.lemmas.Bool.{cases_eq, and_parts, and_from}
use Rattle.frame.specs.Below.{Mode, X, S, holds_with, took, gave_back, restored, is_none_or, Counts, owner, seat_with, in_holds, Object}
use Rattle.history.proofs.Sums.{seat_with_none, seat_with_one}
use Rattle.frame.specs.Prelude.{AreAlike, opening_counts, holds_of, owner_in, is_owner_in, is_owned, Owns}

-- the holds of the owner, and of any other seat
at_own : (holds i : ℕ) → cond (eqb i i) holds 0 ≡ holds
at_own holds i = rw (eq-eqb i i refl) refl

at_other : (holds i j : ℕ) → j ≢ i → cond (eqb i j) holds 0 ≡ 0
at_other holds i j ne = rw (ne_eqb i j (λ e. ne (sym e))) refl

seat_with_owner : (most : ℕ) (o : Option ℕ) (holds seats : ℕ) (f : ℕ → ℕ) →
    ((i : ℕ) → f i ≡ holds_of o holds i) → is_owned most o holds ≡ true → owner_in seats o →
    seat_with seats f ≡ o
seat_with_owner most None holds seats f h t p = seat_with_none seats f h
seat_with_owner most (Some j) holds seats f h t p =
    let own : f j ≡ holds = h j ∙ at_own holds j in
    let some : 0 < holds = ltb-true 0 holds (and_parts _ _ t).0 in
    seat_with_one seats f j p (omega (arith, own, some)) (λ i ne. h i ∙ at_other holds j i ne)

-- the owner of the counts is the one whose holds they are
pub owner_is : (most : ℕ) (o : Option ℕ) (holds : ℕ) (k : Counts) → is_owned most o holds ≡ true →
    Owns o holds k → owner k ≡ o
owner_is most o holds k t h = seat_with_owner most o holds k.seats (λ i. k.held i X) h.held t h.seat

-- a seat that may be the owner has all the exclusive holds
pub all_its_own : (most : ℕ) (o : Option ℕ) (holds i : ℕ) → is_owned most o holds ≡ true →
    is_none_or o i ≡ true → holds_of o holds i ≡ holds
all_its_own most None holds i t u = sym (eqb-true holds 0 t)
all_its_own most (Some j) holds i t u =
    let e : j ≡ i = eqb-true j i u in
    rw e (at_own holds i)

pub none_else : (o : Option ℕ) (holds i : ℕ) → is_none_or o i ≡ true → (j : ℕ) → j ≢ i →
    holds_of o holds j ≡ 0
none_else None holds i t j ne = refl
none_else (Some q) holds i t j ne =
    let e : q ≡ i = eqb-true q i t in
    rw e (at_other holds i j ne)

pub some_owned : (most i holds : ℕ) → 0 < holds → holds ≤ most → is_owned most (Some i) holds ≡ true
some_owned most i holds a b = and_from _ _ (lt-ltb _ _ a) (le-leb _ _ b)

pub owned_some : (most i holds : ℕ) → is_owned most (Some i) holds ≡ true → 0 < holds
owned_some most i holds t = ltb-true 0 holds (and_parts _ _ t).0

pub owned_most : (most : ℕ) (o : Option ℕ) (holds : ℕ) → is_owned most o holds ≡ true → holds ≤ most
owned_most most None holds t = let e : holds ≡ 0 = eqb-true holds 0 t in omega arith
owned_most most (Some i) holds t = leb-true holds most (and_parts _ _ t).1

pub others_not : (i j : ℕ) → j ≢ i → eqb i j ≡ false
others_not i j ne = ne_eqb i j (λ e. ne (sym e))

-- What a change of a seat's holds in one mode leaves of the other.
and_false : (b : Bool) (x y : ℕ) → cond (b && false) x y ≡ y
and_false true x y = refl
and_false false x y = refl

pub exclusive_kept : (i : ℕ) (change : ℕ → ℕ) (was : ℕ → Mode → ℕ) (j : ℕ) →
    holds_with i S change was j X ≡ was j X
exclusive_kept i change was j = and_false (eqb i j) _ _

pub shared_kept : (i : ℕ) (change : ℕ → ℕ) (was : ℕ → Mode → ℕ) (j : ℕ) →
    holds_with i X change was j S ≡ was j S
shared_kept i change was j = and_false (eqb i j) _ _

-- and of the holds in its own
pub changed_own : (i : ℕ) (m : Mode) (change : ℕ → ℕ) (was : ℕ → Mode → ℕ) (j : ℕ) → i ≡ j →
    holds_with i m change was j m ≡ change (was j m)
changed_own i X change was j e = rw (eq-eqb i j e) refl
changed_own i S change was j e = rw (eq-eqb i j e) refl

pub changed_other : (i : ℕ) (m : Mode) (change : ℕ → ℕ) (was : ℕ → Mode → ℕ) (j : ℕ) → j ≢ i →
    holds_with i m change was j m ≡ was j m
changed_other i m change was j ne = rw (others_not i j ne) refl

-- A change of the exclusive holds of the only seat that may have some leaves those of the new owner.
changed : (o new : Option ℕ) (holds then : ℕ) (i : ℕ) (change : ℕ → ℕ) (was : ℕ → Mode → ℕ) →
    ((j : ℕ) → was j X ≡ holds_of o holds j) → is_none_or o i ≡ true → is_none_or new i ≡ true →
    holds_of new then i ≡ change (holds_of o holds i) → (j : ℕ) →
    holds_with i X change was j X ≡ holds_of new then j
changed o new holds then i change was h t u e j = ⊎_elim same other (cases_eq i j)
  where
    same : i ≡ j → holds_with i X change was j X ≡ holds_of new then j
    same q =
        let P : ℕ → Type 0 = λ z. change (was z X) ≡ holds_of new then z in
        let own : change (was i X) ≡ holds_of new then i = ap change (h i) ∙ sym e in
        changed_own i X change was j q ∙ subst P q own

    other : (i ≡ j → ⊥) → holds_with i X change was j X ≡ holds_of new then j
    other n =
        let ne : j ≢ i = λ q. n (sym q) in
        changed_other i X change was j ne ∙ h j ∙ none_else o holds i t j ne ∙ sym
        (none_else new then i u j ne)

-- The owner after a take, a give and the like of exclusive holds, and after a change of shared ones.
pub owns_took : (most : ℕ) (o : Option ℕ) (holds : ℕ) (k : Counts) (i n : ℕ) →
    is_owned most o holds ≡ true → Owns o holds k → in_holds k.object n ≡ 1 → i < k.seats →
    is_none_or o i ≡ true → Owns (Some i) (holds + 1) (took k i X n)
owns_took most o holds k i n t h one seat u =
    let own : holds_of o holds i ≡ holds = all_its_own most o holds i t u in
    let now : holds_of (Some i) (holds + 1) i ≡ holds + 1 = at_own (holds + 1) i in
    let e : holds_of (Some i) (holds + 1) i ≡ holds_of o holds i + in_holds k.object n = now
    ∙ sym (rw own (rw one refl)) in
    record {
      held = changed o (Some i) holds (holds + 1) i (λ had. had + in_holds k.object n) k.held h.held
          u (eq-eqb i i refl) e;
      seat = seat;
    }

pub owns_gave : (holds : ℕ) (k : Counts) (i n : ℕ) → Owns (Some i) holds k → in_holds k.object n ≡ 1 →
    Owns (Some i) (holds - 1) (gave_back k i X n)
owns_gave holds k i n h one =
    let own : holds_of (Some i) holds i ≡ holds = at_own holds i in
    let now : holds_of (Some i) (holds - 1) i ≡ holds - 1 = at_own (holds - 1) i in
    let e : holds_of (Some i) (holds - 1) i ≡ holds_of (Some i) holds i - in_holds k.object n = now
    ∙ sym (rw own (rw one refl)) in
    record {
      held = changed (Some i) (Some i) holds (holds - 1) i (λ had. had - in_holds k.object n) k.held
          h.held (eq-eqb i i refl) (eq-eqb i i refl) e;
      seat = h.seat;
    }

pub owns_restored : (k : Counts) (i n : ℕ) → Owns None 0 k → i < k.seats → Owns (Some i) n (restored k i n)
owns_restored k i n h seat =
    let now : holds_of (Some i) n i ≡ 0 + n = at_own n i ∙ sym (zero-add n) in
    record {
      held = changed None (Some i) 0 n i (λ had. had + n) k.held h.held refl (eq-eqb i i refl) now;
      seat = seat;
    }

-- where a seat that may be the owner has no hold, nobody owns
pub no_owner : (most : ℕ) (o : Option ℕ) (holds i : ℕ) → is_owned most o holds ≡ true →
    is_none_or o i ≡ true → holds_of o holds i ≡ 0 → o ≡ None
no_owner most None holds i t u z = refl
no_owner most (Some j) holds i t u z =
    let some : 0 < holds = owned_some most j holds t in
    let own : holds_of (Some j) holds i ≡ holds = all_its_own most (Some j) holds i t u in
    absurd (omega (arith, some, own, z))

-- as opened nobody owns
pub owns_opening : (o : Option ℕ) (holds : ℕ) (object : Object) (seats : ℕ) → o ≡ None →
    Owns o holds (opening_counts object seats)
owns_opening o holds object seats e = rw e (record { held = λ i. refl; seat = tt })

pub owner_seated : (o : Option ℕ) (seats : ℕ) → is_owner_in seats o ≡ true → owner_in seats o
owner_seated None seats e = tt
owner_seated (Some i) seats e = ltb-true i seats e

pub seated_some : (i seats : ℕ) → i < seats → is_owner_in seats (Some i) ≡ true
seated_some i seats p = lt-ltb i seats p

-- so many seats that an owner is one of them
abbrev pub seats_for : Option ℕ → ℕ
seats_for None = 1
seats_for (Some i) = i + 1

pub owner_below : (o : Option ℕ) → owner_in (seats_for o) o
owner_below None = tt
owner_below (Some i) = omega arith

-- counts that say the same have the same owner
pub owns_alike : (o : Option ℕ) (holds : ℕ) (k l : Counts) → AreAlike k l → Owns o holds k → Owns o holds l
owns_alike o holds k l same owns =
    record {
      held = λ i. same.held i X ∙ owns.held i;
      seat = subst (λ n. owner_in n o) (sym same.seats) owns.seat;
    }
