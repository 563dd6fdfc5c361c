-- Who owns, and how many permits are free.
use Rattle.std.proofs.Common.{◌≡◌, ℕ, zero, suc, ◌<◌, Bool, true, false, ltb, List, [], ◌∷◌, length, get_or, Option, Some, None, refl, ap, ◌∙◌, sym, arith, ℤ, pos, ◌≤ℤ◌, slice_get, is_some, lt-ltb, le-ltb}
use Rattle.std.specs.List.{list_any}
use Rattle.std.proofs.lemmas.Bool.{or_left, or_right, or_from}
use Rattle.std.proofs.lemmas.Option.{slice_get-get_or, slice_get_within}
use Rattle.frame.specs.Below.{Entry, Policy, max_amount, Semaphore, counts, owner, is_semaphore, Start, IsHistory}
use Rattle.std.specs.Int.{w64}
use mir.Val.{to_z, of_z}
use Rattle.history.proofs.Owners.{owner_holds, nobody_holds}
use Rattle.deciding.proofs.Bounds.{free_most}
use Rattle.frame.specs.Prelude.{Seat, level_of, level_by, IsSeat, no_holds}

-- the free permits that the hooks of a semaphore count
pub level_most : (s : Start) (h : List Entry) (p : Policy) (n z : ℤ) → IsHistory s h →
    s.header.object ≡ Semaphore p n → z ≡ level_of (counts s h) → to_z w64 (of_z w64 z) ≤ℤ pos max_amount
level_most s h p n z past q is =
    free_most s h z past (ap is_semaphore q) (is ∙ ap (λ o. level_by o (counts s h)) q)

-- whether a test of a table holds somewhere
any_at : (test : Seat → Bool) (table : List Seat) (i : ℕ) (x : Seat) → slice_get table i ≡ Some x →
    test x ≡ true →
    list_any test table ≡ true
any_at test [] i x q t = cc
any_at test (y ∷ table) zero x q t = let same : y ≡ x = cc in or_left (test y) _ (ap test same ∙ t)
any_at test (y ∷ table) (suc i) x q t = or_right (test y) _ (any_at test table i x q t)

any_none : (test : Seat → Bool) (table : List Seat) →
    ((i : ℕ) (x : Seat) → slice_get table i ≡ Some x → test x ≡ false) →
    list_any test table ≡ false
any_none test [] none = refl
any_none test (y ∷ table) none =
    or_from (test y) _ (none 0 y refl) (any_none test table (λ i x q. none (suc i) x q))

abbrev pub holds_exclusively : Seat → Bool
holds_exclusively seat = ltb 0 seat.exclusive

-- somebody owns where some seat holds exclusively
pub held_by_any : (s : Start) (h : List Entry) (table : List Seat) → length table ≡ s.header.seats →
    ((i : ℕ) → i < s.header.seats → IsSeat s h i (get_or table i no_holds)) →
    list_any holds_exclusively table ≡ is_some (owner (counts s h))
held_by_any s h table n all = by (owner (counts s h)) refl
  where
    by : (o : Option ℕ) → owner (counts s h) ≡ o → list_any holds_exclusively table ≡ is_some o
    by (Some o) q =
        let owns = owner_holds (counts s h) o q in
        let l : 0 < (get_or table o no_holds).exclusive =
        let e = (all o owns.0).exclusive in let p = owns.1 in omega (arith, e, p) in
        any_at holds_exclusively table o (get_or table o no_holds)
        (slice_get-get_or table o no_holds (let m = owns.0 in omega (arith, m, n))) (lt-ltb 0 _ l)
    by None q =
        any_none holds_exclusively table (λ i x at.
        let within = slice_get_within table i x at in
        let inside : i < s.header.seats = omega (arith, within, n) in
        let same : get_or table i no_holds ≡ x =
        some_seat (sym (slice_get-get_or table i no_holds within) ∙ at) in
        let z = nobody_holds (counts s h) i q inside in
        let e = (all i inside).exclusive in
        let d : (get_or table i no_holds).exclusive ≡ x.exclusive = ap (λ (y : Seat). y.exclusive) same in
        le-ltb 0 x.exclusive (omega (arith, z, e, d)))
      where
        some_seat : {x y : Seat} → Some x ≡ Some y → x ≡ y
        some_seat p = cc
