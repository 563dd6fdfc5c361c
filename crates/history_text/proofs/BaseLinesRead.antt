-- The lines of a base are read, one after another.
use Rattle.std.proofs.Common.{◌≡◌, ℕ, zero, suc, ◌+◌, ◌-◌, ◌≤◌, ◌<◌, Bool, true, false, List, [], ◌∷◌, ◌++◌, length, get_or, set, refl, sym, ap, subst, ◌∙◌, arith, length-append}
use Rattle.std.proofs.lemmas.Bool.{false≢true}
use Rattle.history_text.specs.Below.{SeatBase, Sleeper, LinePlace, Header, Base, opening_base, sleepers_of, IsInRange}
use Rattle.history_text.specs.Prelude.{BaseLine, Seat, Sleeps, Stands, AllRead, after_told, with_lines, base_lines, MOST_LINES, AllSeated, MayFollow, BaseSums, with_sums, no_sums, with_line, Follow, base_by, sums_of, calls_sum, IsUnderWay, lines_by, lines_read, LinesRead, GoodBeginsSo, GoodHas, IsToldBase}
use Rattle.history_text.proofs.BaseRetold.{good_follows, good_is_told}
use Rattle.history_text.proofs.BaseTold.{SoFar, asleep_place, goes_on, header_kept, line_place, stands_seated, told_so_far, whole_told}
use Rattle.history_text.proofs.BaseWhole.{base-append, follow-append, some_base, told-append}
use Rattle.history_text.proofs.HeadWritten.{sum_calls}

-- what a base and its sums say of the lines that were read
abbrev pub view_of : BaseSums → Base → LinesRead
view_of t b = record { header = b.header; lines = lines_read t b }

-- ---- how many lines may follow

abbrev places_free : List Bool → ℕ
places_free [] = 0
places_free (true ∷ xs) = places_free xs
places_free (false ∷ xs) = suc (places_free xs)

one_taken : (xs : List Bool) (i : ℕ) → i < length xs → get_or xs i false ≡ false →
    suc (places_free (set xs i true)) ≡ places_free xs
one_taken [] i lt is = absurd (omega (arith, lt))
one_taken (true ∷ xs) zero lt is = absurd (false≢true (sym is))
one_taken (false ∷ xs) zero lt is = refl
one_taken (true ∷ xs) (suc i) lt is = one_taken xs i (omega (arith, lt)) is
one_taken (false ∷ xs) (suc i) lt is = ap suc (one_taken xs i (omega (arith, lt)) is)

abbrev first_to_tell : ℕ → ℕ
first_to_tell zero = 1
first_to_tell (suc n) = 0

first_told : (n : ℕ) → 1 ≤ n → first_to_tell n ≡ 0
first_told zero some = absurd (omega (arith, some))
first_told (suc n) some = refl

-- a first line, a seat for each, and one for each place that is free
abbrev to_tell : ℕ → BaseSums → ℕ
to_tell seats t = first_to_tell t.entries + ((seats - t.seats) + places_free t.waits)

-- behind one line more, one line fewer may follow
one_fewer : (t : BaseSums) (b : Base) (x : BaseLine) → IsInRange b.header → length t.waits ≡ 256 →
    MayFollow t b x → suc (to_tell b.header.seats (with_sums t x)) ≤ to_tell b.header.seats t
one_fewer t b (Seat i has) range long may = omega (arith, may.next, may.seat)
one_fewer t b (Stands p) range long may =
    let small = stands_seated b p may.3 in
    omega (arith, one_taken t.waits p.who.seat (omega (arith, range.seats, small)) may.2)
one_fewer t b (Sleeps c x) range long may =
    omega (arith, one_taken t.waits x.seat (omega (arith, range.seats, long, may.3.seat)) may.2)
one_fewer t b x range long may = grind (arith, first_told)

few_more : (done xs : List BaseLine) (t : BaseSums) (b : Base) → SoFar done t b → AllRead b t xs →
    length xs ≤ to_tell b.header.seats t
few_more done [] t b so follow = omega arith
few_more done (x ∷ xs) t b so follow =
    let one = one_fewer t b x so.range so.waited.places follow.0 in
    let more = few_more (done ++ x ∷ []) xs (with_sums t x) (with_line b x) (goes_on done t b x so follow.0)
    follow.1 in
    let same : to_tell (with_line b x).header.seats (with_sums t x) ≡ to_tell b.header.seats (with_sums t x) =
    ap (λ (k : Header). to_tell k.seats (with_sums t x)) (header_kept b x) in
    omega (arith, one, more, same)

-- ---- the last of some lines

last_may : (t : BaseSums) (b : Base) (xs : List BaseLine) (x : BaseLine) → AllRead b t (xs ++ x ∷ []) →
    MayFollow (after_told t xs) (with_lines b xs) x
last_may t b [] x follow = follow.0
last_may t b (y ∷ xs) x follow = last_may (with_sums t y) (with_line b y) xs x follow.1

-- the lines that the sums are of are those that were read
lines_are : (xs : List BaseLine) (t : BaseSums) (b : Base) → SoFar xs t b → lines_read t b ≡ xs
lines_are xs t b so = by t.entries refl
  where
    by : (n : ℕ) → t.entries ≡ n → lines_by n t b ≡ xs
    by zero e = sym (so.spelt.none e).2
    by (suc n) e = sym (so.spelt.some (omega (arith, e)))

module _ (t : BaseSums) (b : Base) (lines : ℕ) (is : IsUnderWay t b lines) where
  abbrev xs : List BaseLine
  xs = lines_read t b

  known : SoFar xs t b
  known = rw (is.told, is.base) at (told_so_far b.header xs is.range is.follow)

  pub few : length xs ≤ MOST_LINES
  few =
      let all = few_more [] xs no_sums (opening_base b.header) (told_so_far b.header [] is.range tt)
      is.follow in
      omega (arith, all, is.range.seats)

  -- ---- which line may come next

  pub may_next : (x : BaseLine) → GoodBeginsSo b.header (xs ++ x ∷ []) → MayFollow t b x
  may_next x (g, more, told, e) =
      let all = good_follows b.header g (xs ++ x ∷ []) more is.range told e in
      rw (is.told, is.base) at (last_may no_sums (opening_base b.header) xs x all)

  may_last : (x : BaseLine) → MayFollow t b x → MayFollow (sums_of xs) (base_by b.header xs) x
  may_last x may = rw (is.told, is.base) may

  follow_more : (x : BaseLine) → MayFollow t b x → Follow b.header (xs ++ x ∷ [])
  follow_more x may =
      follow-append no_sums (opening_base b.header) xs (x ∷ []) is.follow (may_last x may, tt)

  pub begins_next : (x : BaseLine) → MayFollow t b x → GoodBeginsSo b.header (xs ++ x ∷ [])
  begins_next x may = some_base b.header (xs ++ x ∷ []) is.range (follow_more x may)

  pub has_whole : AllSeated b.header t → GoodHas b.header xs
  has_whole all =
      let whole = whole_told b.header xs is.range is.follow (subst (AllSeated b.header) (sym is.told) all) in
      (base_by b.header xs, whole.1, sym whole.0)

  pub whole_has : GoodHas b.header xs → AllSeated b.header t
  whole_has (g, told, e) =
      let all = (good_is_told b.header g is.range told).0 in
      subst (AllSeated b.header) (ap sums_of e ∙ is.told) all

  -- ---- a line is taken up

  pub one_line : (x : BaseLine) → MayFollow t b x →
      lines_read (with_sums t x) (with_line b x) ≡ xs ++ x ∷ []
  one_line x may = lines_are (xs ++ x ∷ []) (with_sums t x) (with_line b x) (goes_on xs t b x known may)

  pub grown : (x : BaseLine) → MayFollow t b x → IsUnderWay (with_sums t x) (with_line b x) (lines + 1)
  grown x may =
      let line = one_line x may in
      let header = header_kept b x in
      record {
        range = rw header is.range;
        follow = rw (header, line) (follow_more x may);
        base = ap (λ (k : Header). base_by k (lines_read (with_sums t x) (with_line b x))) header
            ∙ ap (base_by b.header) line ∙ base-append (opening_base b.header) xs (x ∷ [])
            ∙ ap (λ (z : Base). with_line z x) is.base;
        told = ap sums_of line ∙ told-append no_sums xs (x ∷ [])
            ∙ ap (λ (z : BaseSums). with_sums z x) is.told;
        count = omega (arith, ap (λ (l : List BaseLine). length l) line, length-append xs (x ∷ []), is.count);
      }

  module _ (x : BaseLine) (may : MayFollow t b x) where
    pub seat_here : (i : ℕ) (has : SeatBase) → x ≡ Seat i has → i < length b.seats
    seat_here i has e = omega (arith, (subst (MayFollow t b) e may).seat, known.summed.length)

    -- one more finds a place in line, or among the sleepers of its condition
    pub place_in_line : (p : LinePlace) → x ≡ Stands p → length b.line < b.header.seats
    place_in_line p e =
        let stands = subst (MayFollow t b) e may in line_place xs t b known p stands.3 stands.2

    pub place_asleep : (c : ℕ) (s : Sleeper) → x ≡ Sleeps c s →
        (c < length b.sleepers) × (length (sleepers_of b c) < b.header.seats)
    place_asleep c s e =
        let sleeps = subst (MayFollow t b) e may in (
          omega (arith, sleeps.3.condition, known.waited.conditions),
          asleep_place xs t b known c s sleeps.3 sleeps.2,
        )

  -- ---- behind the last line

  module _ (has : GoodHas b.header xs) where
    same_base : b ≡ has.0
    same_base =
        sym is.base ∙ ap (base_by b.header) (sym has.2) ∙ (good_is_told b.header has.0 is.range has.1).1

    pub told_whole : IsToldBase b.header b × (base_lines b ≡ xs)
    told_whole = (
      subst (IsToldBase b.header) (sym same_base) has.1,
      ap base_lines same_base ∙ has.2,
    )

    pub sums_whole : (t.entries ≡ b.entries) × (t.calls ≡ calls_sum b.seats)
    sums_whole = (
      sym known.summed.entries,
      sym (ap (λ (z : BaseSums). z.calls) is.told) ∙ ap (λ (l : List BaseLine). (sums_of l).calls) (sym has.2)
          ∙ (good_is_told b.header has.0 is.range has.1).2 ∙ sym (sum_calls has.0 has.1.good)
          ∙ ap (λ (z : Base). calls_sum z.seats) (sym same_base),
    )

-- what was read is one line more
pub taken_view : (t : BaseSums) (b : Base) (lines : ℕ) (is : IsUnderWay t b lines) (x : BaseLine) → MayFollow
    t b x →
    view_of (with_sums t x) (with_line b x) ≡ record { header = b.header; lines = lines_read t b ++ x ∷ [] }
taken_view t b lines is x may = λ j. record {
  header = header_kept b x j;
  lines = one_line t b lines is x may j;
}
