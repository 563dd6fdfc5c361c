-- Who owns behind a legal history, and that what is held and free fits.
use Rattle.std.proofs.Common.{◌≡◌, ◌≢◌, ⊎_elim, ℕ, zero, suc, ◌+◌, ◌*◌, ◌<◌, ◌≤◌, ◌^◌, ltb, true, length, List, [], ◌∷◌, Option, Some, None, ap, ◌∙◌, sym, subst, refl, arith, ℤ, pos, ◌≤ℤ◌, FitsSigned, eq-eqb, ne_eqb, lt-ltb, le-ltb}
use Rattle.std.specs.Int.{w32, w64}
use mir.Val.{to_z, of_z}
use Rattle.std.proofs.lemmas.Bool.{cases_eq}
use Rattle.std.proofs.lemmas.Int.{ints, to_z-of_z}
use Rattle.deciding.specs.Below.{Arrival, Entry, Mode, X, S, based, IsConserved, is_seat, Counts, counts, free, held, owner, max_amount, most_permits, IsInRange, IsLegal, AreSeated, line, first_of, is_lock, is_semaphore, IsOwned, CanFold, Start}
use Rattle.history.proofs.Folding.{based_conserved}
use Rattle.history.proofs.GoodBases.{good_waits}
use Rattle.history.proofs.GoodFolds.{free_fits_base, line_seated_on, owned_behind}
use Rattle.history.proofs.OneWait.{Waits, waits_from}
use Rattle.history.proofs.Owners.{most_fits, owner_holds, nobody_holds}
use Rattle.history.proofs.Permits.{conserved_from}
use Rattle.history.proofs.SmallHolds.{exclusive_small, shared_small}
use Rattle.history.proofs.WhoWaits.{LineSeated}
use Rattle.deciding.specs.ObjectState.{IsHistory}

-- what holds of a legal history on each good base
pub at_base : (P : Start → Type 0) (s : Start) (h : List Entry) (past : IsHistory s h) →
    (IsInRange past.base.header → CanFold past.base h → P (based past.base)) → P s
at_base P s h past f =
    let L : Start → Type 0 = λ x. IsLegal x h in
    let A : Start → Type 0 = λ x. AreSeated x h in
    let R : Start → Type 0 = λ x. IsInRange x.header in
    subst P (sym past.start) (f (subst R past.start past.range) (record {
      good = past.good;
      seated = subst A past.start past.seated;
      legal = subst L past.start past.legal;
    }))

-- those who wait behind a legal history
pub waits_by : (s : Start) (h : List Entry) → IsHistory s h → Waits s h
waits_by s h past =
    at_base (λ x. Waits x h) s h past
    (λ range can. waits_from (based past.base) h (good_waits past.base can.good) can.legal)

pub owned_by : (s : Start) (h : List Entry) → IsHistory s h → is_lock s.header.object ≡ true → IsOwned s h
owned_by s h past lock =
    at_base (λ x. IsOwned x h) s h past
    (λ range can. owned_behind past.base can.good h
    (ap (λ (x : Start). is_lock x.header.object) (sym past.start) ∙ lock) can.legal can.seated)

-- the exclusive holds of one seat of a lock
pub exclusive_fits : (s : Start) (h : List Entry) (i : ℕ) → IsHistory s h →
    is_lock s.header.object ≡ true → held s h i X ≤ 2147483647
exclusive_fits s h i past lock =
    let most = (owned_by s h past lock).exclusive i in
    let small = most_fits s.header.object in
    omega (arith, most, small)

-- the owner is the seat that holds exclusively
owner_is : (k : Counts) (i : ℕ) → i < k.seats →
    ((i j : ℕ) → 0 < k.held i X → 0 < k.held j X → i ≡ j) → is_seat (owner k) i ≡ ltb 0 (k.held i X)
owner_is k i l one = by (owner k) refl
  where
    by : (o : Option ℕ) → owner k ≡ o → is_seat o i ≡ ltb 0 (k.held i X)
    by None p = let z = nobody_holds k i p l in sym (le-ltb 0 (k.held i X) (omega (arith, z)))
    by (Some o) p =
        let owns = (owner_holds k o p).1 in
        ⊎_elim
        (λ (same : o ≡ i).
        let d : k.held o X ≡ k.held i X = ap (λ x. k.held x X) same in
        eq-eqb o i same ∙ sym (lt-ltb 0 (k.held i X) (omega (arith, d, owns))))
        (λ (ne : o ≢ i). ne_eqb o i ne ∙ sym (le-ltb 0 (k.held i X) (none ne owns (k.held i X) refl)))
        (cases_eq o i)
      where
        none : o ≢ i → 0 < k.held o X → (n : ℕ) → k.held i X ≡ n → n ≤ 0
        none ne owns zero q = omega arith
        none ne owns (suc n) q = absurd (ne (one o i owns (omega (arith, q))))

pub owner_holds_any : (s : Start) (h : List Entry) (i : ℕ) → IsHistory s h →
    is_lock s.header.object ≡ true → i < s.header.seats →
    is_seat (owner (counts s h)) i ≡ ltb 0 (held s h i X)
owner_holds_any s h i past lock seat = owner_is (counts s h) i seat (owned_by s h past lock).one

-- the free permits of a semaphore
wide : (z : ℤ) → FitsSigned w32 z → FitsSigned w64 z
wide z f = let l = f.sfits in record { sfits = omega (arith, l) }

at_most : (z : ℤ) → FitsSigned w32 z → z ≤ℤ pos max_amount
at_most z f = omega (arith, ints)

free_narrow : (s : Start) (h : List Entry) → IsHistory s h → is_semaphore s.header.object ≡ true →
    FitsSigned w32 (free s h)
free_narrow s h past semaphore =
    at_base (λ x. FitsSigned w32 (free x h)) s h past
    (λ range can. free_fits_base past.base h range can
    (ap (λ (x : Start). is_semaphore x.header.object) (sym past.start) ∙ semaphore))

pub free_wide : (s : Start) (h : List Entry) → IsHistory s h → is_semaphore s.header.object ≡ true →
    FitsSigned w64 (free s h)
free_wide s h past semaphore = wide (free s h) (free_narrow s h past semaphore)

pub free_most : (s : Start) (h : List Entry) (z : ℤ) → IsHistory s h →
    is_semaphore s.header.object ≡ true → z ≡ free s h → to_z w64 (of_z w64 z) ≤ℤ pos max_amount
free_most s h z past semaphore is =
    let fits : FitsSigned w64 z = subst (FitsSigned w64) (sym is) (free_wide s h past semaphore) in
    subst (λ x. x ≤ℤ pos max_amount) (sym (to_z-of_z w64 z fits ∙ is))
    (at_most (free s h) (free_narrow s h past semaphore))

-- the first in line has one of the seats
pub all_below : (s : Start) (h : List Entry) → IsHistory s h → LineSeated s.header.seats (line s h)
all_below s h past =
    at_base (λ x. LineSeated x.header.seats (line x h)) s h past
    (λ range can. line_seated_on past.base can.good h can.legal can.seated)

pub first_below : (s : Start) (h : List Entry) (a : Arrival) → IsHistory s h →
    Some a ≡ first_of (line s h) → a.seat < s.header.seats
first_below s h a past q = by (line s h) (all_below s h past) q
  where
    by : (queue : List Arrival) → LineSeated s.header.seats queue → Some a ≡ first_of queue →
        a.seat < s.header.seats
    by [] each p = cc
    by (b ∷ rest) each p =
        let same : b ≡ a = cc in subst (λ (x : Arrival). x.seat < s.header.seats) same each.0

-- the permits that are held and free are those created and those that were released unheld
pub conserved_by : (s : Start) (h : List Entry) → IsHistory s h → is_semaphore s.header.object ≡ true →
    IsConserved s h
conserved_by s h past semaphore =
    at_base (λ x. IsConserved x h) s h past
    (λ range can. conserved_from (based past.base) h
    (ap (λ (x : Start). is_semaphore x.header.object) (sym past.start) ∙ semaphore)
    (good_waits past.base can.good) (based_conserved past.base) can.legal can.seated)

-- no seat holds more at once
abbrev pub most_at_once : ℕ
most_at_once = most_permits + 2147483647 * 4294967296

pub holds_few : (s : Start) (h : List Entry) (i : ℕ) (m : Mode) → IsHistory s h → length h < 2 ^ 32 →
    i < s.header.seats → held s h i m ≤ most_at_once
holds_few s h i X past short seat =
    at_base (λ x. held x h i X ≤ most_at_once) s h past
    (λ range can. let few = exclusive_small past.base h can i in omega (arith, few))
holds_few s h i S past short seat =
    at_base (λ x. i < x.header.seats → held x h i S ≤ most_at_once) s h past
    (λ range can below. let few = shared_small past.base h can range i below in omega (arith, few, short))
    seat
