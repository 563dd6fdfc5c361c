-- The lines of a base and good bases.
use Rattle.std.proofs.Common.{◌≡◌, ◌≤◌, List, [], ◌∷◌, ap, ◌∙◌, sym, subst, refl, arith}
use Rattle.history_text.specs.Below.{Header, Base, opening_base, seat_of, Object, IsGood, IsInRange}
use Rattle.history_text.specs.Prelude.{BaseLine, Seat, Stands, Sleeps, AllRead, after_told, with_lines, base_lines, first_line, AllSeated, MayFollow, BaseSums, with_sums, no_sums, with_line, IsToldBase, base_by}
use Rattle.history_text.specs.inner.BaseFollowing.{AllFollow, HasShape}
use Rattle.history_text.proofs.BaseRetold.{good_told}
use Rattle.history_text.proofs.BaseTold.{gave_moved, header_after, header_kept, stands_moved, whole_told}
use Rattle.history_text.proofs.BaseWalk.{IsTold, base_told}

-- a good base of some entries, with a header in range
pub record IsGoodOf (b : Base) : Type 0 where
  pub range : IsInRange b.header
  pub some : 1 ≤ b.entries
  pub good : IsGood b

of_header : (k : Header) (b : Base) → IsInRange k → IsToldBase k b → IsGoodOf b
of_header k b range is =
    record { range = subst IsInRange (sym is.header) range; some = is.some; good = is.good }

-- lines behind the last seat leave the seats
one_kept : (t : BaseSums) (b : Base) (x : BaseLine) → AllSeated b.header t → MayFollow t b x →
    ((with_line b x).seats ≡ b.seats) × AllSeated b.header (with_sums t x)
one_kept t b (Seat i has) all may = absurd (omega (arith, may.next, may.seat, all.seats))
one_kept t b x all may = (refl, assumption)

seats_kept : (t : BaseSums) (b : Base) (xs : List BaseLine) → AllSeated b.header t → AllRead b t xs →
    (with_lines b xs).seats ≡ b.seats
seats_kept t b [] all read = refl
seats_kept t b (x ∷ xs) all read =
    let one = one_kept t b x all read.0 in
    seats_kept (with_sums t x) (with_line b x) xs
    (subst (λ h. AllSeated h (with_sums t x)) (sym (header_kept b x)) one.1) read.1
    ∙ one.0

-- what may follow under the base so far may follow under the whole one
one_follows : (t : BaseSums) (a b : Base) (x : BaseLine) → b.header ≡ a.header →
    (AllSeated b.header t → b.seats ≡ a.seats) → MayFollow t b x → MayFollow t a x
one_follows t a b (Stands p) h s may = (
  subst (λ k. AllSeated k t) h may.0,
  may.1,
  may.2,
  stands_moved b a p h (s may.0) may.3,
)
one_follows t a b (Sleeps c x) h s may = (
  subst (λ k. AllSeated k t) h may.0,
  may.1,
  may.2,
  gave_moved b a x.seat c x.holds h (s may.0) may.3,
)
one_follows t a b x h s may = subst (λ (k : Header). MayFollow t (record b { header = k }) x) h may

read_follows : (t : BaseSums) (a b : Base) (xs : List BaseLine) → with_lines b xs ≡ a → AllRead b t xs →
    AllFollow a t xs
read_follows t a b [] e read = tt
read_follows t a b (x ∷ xs) e read = (
  one_follows t a b x (sym (header_after b (x ∷ xs)) ∙ ap (λ (c : Base). c.header) e)
      (λ all. sym (seats_kept t b (x ∷ xs) all read) ∙ ap (λ (c : Base). c.seats) e) read.0,
  read_follows (with_sums t x) a (with_line b x) xs e read.1,
)

-- each line of a good base may follow those before it
pub good_follows : (b : Base) → IsGoodOf b → AllFollow b no_sums (base_lines b)
good_follows b of =
    let told = good_told b of.range of.good of.some in
    read_follows no_sums b (opening_base b.header) (base_lines b) told.same told.follow

-- lines that may follow each other, and tell all seats, are those of a good base, the one that they say
pub reads_good : (k : Header) (xs : List BaseLine) → IsInRange k → AllRead (opening_base k) no_sums xs →
    AllSeated k (after_told no_sums xs)
    → IsGoodOf (base_by k xs) × (base_lines (base_by k xs) ≡ xs)
reads_good k xs range read all =
    let whole = whole_told k xs range read all in
    (of_header k (base_by k xs) range whole.1, sym whole.0)

-- a base that has the shape of its object, and each of whose lines may follow those before it, is good
first_read : (b : Base) (o : Object) → MayFollow no_sums b (first_line o b) →
    (1 ≤ b.entries) × MayFollow no_sums (opening_base b.header) (first_line o b)
first_read b o may = grind arith

follows_told : (b : Base) → IsInRange b.header → HasShape b → AllFollow b no_sums (base_lines b) → IsTold b
follows_told b range shape follow =
    base_told b range shape.seats shape.conditions shape.counted (λ t xs. AllFollow b t xs)
    (λ xs known. (let first = first_read b b.header.object known.0 in (first.0, first.1, known.1)))
    (λ n done t a so at l xs known. (
      one_follows t a b (Seat n (seat_of b n)) (sym at.agrees.header)
          (λ all. absurd (omega (arith, all.seats, at.seats, l))) known.0,
      known.1,
    ))
    (λ p front rest done t a so at e xs known. (
      one_follows t a b (Stands p) (sym at.agrees.header) (λ all. sym at.seats) known.0,
      known.1,
    ))
    (λ c x front rest done t a so at e xs known. (
      one_follows t a b (Sleeps c x) (sym at.agrees.header) (λ all. sym at.seats) known.0,
      known.1,
    ))
    follow

pub follows_good : (b : Base) → IsInRange b.header → HasShape b →
    AllFollow b no_sums (base_lines b) → (1 ≤ b.entries) × IsGood b
follows_good b range shape follow =
    let is = follows_told b range shape follow in
    let whole = (reads_good b.header (base_lines b) range is.follow is.all).0 in (
      subst (λ (a : Base). 1 ≤ a.entries) is.same whole.some,
      subst IsGood is.same whole.good,
    )
