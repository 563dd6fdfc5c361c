-- Whatever lines of a base follow one another, more can follow until all seats are told: so some good base
-- begins with them.
use Rattle.std.proofs.Common.{◌≡◌, ⊎_elim, ℕ, zero, suc, ◌+◌, ◌-◌, ◌<◌, ◌≤◌, List, [], ◌∷◌, ◌++◌, refl, ap, sym, subst, arith, neg_ℤ}
use Rattle.std.proofs.lemmas.Bool.{cases_lt}
use Rattle.history_text.specs.Below.{MOST_AMOUNT, SeatBase, Header, Object, Lock, ReadWrite, Semaphore, Latch, Base, opening_base, AreCounted, IsInRange, IsOpening, most_shared, at_least_none}
use Rattle.history_text.specs.Prelude.{BaseLine, Folded, Released, CountedDown, Seat, AllRead, with_lines, after_told, Follow, base_by, sums_of, IsToldBase, base_lines, AllSeated, MayFollow, MayHold, BaseSums, with_sums, no_sums, with_line}
use Rattle.history_text.proofs.Amounts.{free_few}
use Rattle.history_text.proofs.BaseTold.{HeldSoFar, SoFar, Summed, goes_on, header_after, header_kept, told_so_far, whole_told}

-- lines behind lines
pub told-append : (t : BaseSums) (xs ys : List BaseLine) →
    after_told t (xs ++ ys) ≡ after_told (after_told t xs) ys
told-append t [] ys = refl
told-append t (x ∷ xs) ys = told-append (with_sums t x) xs ys

pub base-append : (b : Base) (xs ys : List BaseLine) →
    with_lines b (xs ++ ys) ≡ with_lines (with_lines b xs) ys
base-append b [] ys = refl
base-append b (x ∷ xs) ys = base-append (with_line b x) xs ys

pub follow-append : (t : BaseSums) (b : Base) (xs ys : List BaseLine) → AllRead b t xs →
    AllRead (with_lines b xs) (after_told t xs) ys → AllRead b t (xs ++ ys)
follow-append t b [] ys p q = q
follow-append t b (x ∷ xs) ys p q = (p.0, follow-append (with_sums t x) (with_line b x) xs ys p.1 q)

pub follow_front : (t : BaseSums) (b : Base) (xs ys : List BaseLine) → AllRead b t (xs ++ ys) → AllRead b t xs
follow_front t b [] ys p = tt
follow_front t b (x ∷ xs) ys p = (p.0, follow_front (with_sums t x) (with_line b x) xs ys p.1)

-- the permits that the next seat takes so that no more are free than may be
abbrev needed : Object → BaseSums → ℕ
needed (Lock policy) t = 0
needed (ReadWrite policy) t = 0
needed (Semaphore policy permits) t =
    (t.unheld + at_least_none permits) - (MOST_AMOUNT + t.shared + at_least_none (neg_ℤ permits))
needed (Latch opening) t = 0

abbrev next_seat : Object → BaseSums → SeatBase
next_seat o t = record { calls = 0; exclusive = 0; shared = needed o t }

may_hold : (t : BaseSums) (b : Base) → Summed t b → (o : Object) → b.header.object ≡ o → HeldSoFar o t b →
    AreCounted o b → IsOpening o b.header.conditions → MayHold o b.header.seats t (next_seat o t)
may_hold t b sums (Semaphore p c) q v counted opening = (
  refl,
  omega (arith, sums.unheld, counted.0, free_few c opening.1),
  omega (arith, v.lowest),
  λ e. omega arith,
)
may_hold t b sums o q v counted opening = grind (arith, sums.shared, ap most_shared q)

-- until all seats are told
pub seats_follow : (n : ℕ) (done : List BaseLine) (t : BaseSums) (b : Base) → SoFar done t b → 1 ≤ t.entries →
    t.seats + n ≡ b.header.seats →
    (more : List BaseLine) × AllRead b t more × AllSeated b.header (after_told t more)
seats_follow zero done t b so some e = ([], tt, record { begun = some; seats = omega (arith, e) })
seats_follow (suc n) done t b so some e =
    let has = next_seat b.header.object t in
    let may : MayFollow t b (Seat t.seats has) =
    record {
      begun = some;
      next = refl;
      seat = omega (arith, e);
      calls = let few = so.summed.few in omega (arith, few);
      holds = may_hold t b so.summed b.header.object refl so.held so.counted so.range.opening;
    } in
    let rest = seats_follow n (done ++ Seat t.seats has ∷ []) (with_sums t (Seat t.seats has))
    (with_line b (Seat t.seats has)) (goes_on done t b (Seat t.seats has) so may) some (omega (arith, e)) in
    (Seat t.seats has ∷ rest.0, (may, rest.1), rest.2)

-- the first line, if none was told
abbrev first_of : Object → BaseLine
first_of (Semaphore p c) = Released 1 0
first_of (Latch c) = CountedDown 1 0
first_of o = Folded 1

first_follows : (t : BaseSums) (b : Base) → t.entries ≡ 0 → (o : Object) → b.header.object ≡ o →
    (x : BaseLine) × MayFollow t b x × (1 ≤ (with_sums t x).entries) × ((with_sums t x).seats ≡ t.seats)
    × ((with_line b x).header ≡ b.header)
first_follows t b z o q = (first_of o, grind arith, grind arith, grind arith, grind arith)

pub more_follow : (done : List BaseLine) (t : BaseSums) (b : Base) → SoFar done t b →
    (more : List BaseLine) × AllRead b t more × AllSeated b.header (after_told t more)
more_follow done t b so = ⊎_elim some none (cases_lt 0 t.entries)
  where
    some : 0 < t.entries → (more : List BaseLine) × AllRead b t more × AllSeated b.header (after_told t more)
    some l =
        seats_follow (b.header.seats - t.seats) done t b so (omega (arith, l))
        (let m = so.summed.seats in omega (arith, m))

    none : t.entries ≤ 0 → (more : List BaseLine) × AllRead b t more × AllSeated b.header (after_told t more)
    none l =
        let first = first_follows t b (omega (arith, l)) b.header.object refl in
        let now = goes_on done t b first.0 so first.1 in
        let rest = seats_follow ((with_line b first.0).header.seats - (with_sums t first.0).seats)
        (done ++ first.0 ∷ []) (with_sums t first.0) (with_line b first.0) now first.2
        (let m = now.summed.seats in omega (arith, m)) in (
          first.0 ∷ rest.0,
          (first.1, rest.1),
          subst (λ h. AllSeated h (after_told (with_sums t first.0) rest.0)) (header_kept b first.0) rest.2,
        )

pub some_base : (k : Header) (xs : List BaseLine) → IsInRange k → Follow k xs →
    (b : Base) × (more : List BaseLine) × IsToldBase k b × (base_lines b ≡ xs ++ more)
some_base k xs range follow =
    let rest = more_follow xs (sums_of xs) (base_by k xs) (told_so_far k xs range follow) in
    let all = follow-append no_sums (opening_base k) xs rest.0 follow rest.1 in
    let seated : AllSeated k (sums_of (xs ++ rest.0)) =
    rw (told-append no_sums xs rest.0) (rw (header_after (opening_base k) xs) at rest.2) in
    let whole = whole_told k (xs ++ rest.0) range all seated in
    (base_by k (xs ++ rest.0), rest.0, whole.1, sym whole.0)
