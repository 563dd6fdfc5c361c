-- The lines of a good base follow one another, and tell that base.
use Rattle.std.proofs.Common.{◌≡◌, ◌≢◌, inl, inr, ⊎_elim, ℕ, zero, suc, ◌+◌, ◌<◌, ◌≤◌, List, [], ◌∷◌, ◌++◌, map, refl, ap, ◌∙◌, sym, subst, arith, ℤ, pos, neg_ℤ, ◌⊎◌, ◌≤ℤ◌, ◌+ℤ◌, ◌-ℤ◌}
use Rattle.std.specs.List.{AllByRecursion}
use lib.IntN.{negsuc}
use Rattle.std.proofs.lemmas.Bool.{cases_lt}
use Rattle.std.proofs.lemmas.Int.{ints}
use Rattle.std.proofs.lemmas.List.{get_or_past}
use Rattle.std.proofs.lemmas.Bool.Decides.{nat_tests}
use Rattle.history_text.specs.Below.{MOST_AMOUNT, MOST_SEATS, SeatBase, Sleeper, LinePlace, X, S, Header, Object, Lock, ReadWrite, Semaphore, Latch, Base, based, nothing, opening_base, seat_of, sleepers_of, free, total, AreCounted, AreHeld, IsGood, SleepsWell, StandsWell, IsInRange, calls, created, IsOwned, most_exclusive, most_shared, at_least_none, seats_of, times}
use Rattle.history.proofs.GoodBases.{waits_once}
use Rattle.history.proofs.OneOwner.{total_less}
use Rattle.history.proofs.Sums.{total_change, total_nothing, total_same}
use Rattle.history.proofs.Times.{once_same, total_part}
use Rattle.history_text.specs.Prelude.{BaseLine, Stands, Sleeps, Follow, base_by, sums_of, IsToldBase, base_lines, first_line, AllSeated, IsFree, IsSeated, MayFollow, MayHold, BaseSums, no_sums}
use Rattle.history_text.specs.inner.BaseFollowing.{IsCountedFor}
use Rattle.history_text.proofs.Lists.{each_at}
use Rattle.history_text.proofs.BaseTold.{SoFar, gave_moved, pos_kept, stands_moved, waits_of, none_kept, stands_seated}
use Rattle.history_text.proofs.BaseWhole.{follow_front}
use Rattle.history_text.proofs.BaseWalk.{AtLine, AtSeats, AtSleepers, IsTold, base_told}
use Rattle.history_text.proofs.BasePlaces.{times_standing, times_sleeping}

-- a sum that is less by a part of one term
total_less_by : (n : ℕ) (f g : ℕ → ℕ) (j c : ℕ) → j < n → ((i : ℕ) → f i ≤ g i) → f j + c ≤ g j →
    total n f + c ≤ total n g
total_less_by zero f g j c l under at = absurd (omega arith)
total_less_by (suc n) f g j c l under at =
    grind (arith, nat_tests, total_less n f g under, total_less_by n f g j c, under n)

-- the permits, from how many are free
permits_lowest : (c f : ℤ) (u s : ℕ) → f ≡ (c +ℤ pos u) -ℤ pos s → (pos 0 ≤ℤ f) ⊎ (c ≤ℤ f) →
    s ≤ u + at_least_none c
permits_lowest (pos n) f u s e l = omega (arith, ints, pos_kept n)
permits_lowest (negsuc n) f u s e l = omega (arith, ints, none_kept n)

permits_highest : (c f : ℤ) (u s : ℕ) → f ≡ (c +ℤ pos u) -ℤ pos s → f ≤ℤ pos MOST_AMOUNT →
    u + at_least_none c ≤ MOST_AMOUNT + s + at_least_none (neg_ℤ c)
permits_highest (pos n) f u s e l = omega (arith, ints, pos_kept n)
permits_highest (negsuc n) f u s e l = omega (arith, ints, none_kept n, pos_kept (suc n))

none_if : (m : ℕ) → (0 < m → ⊥) → m ≡ 0
none_if zero f = refl
none_if (suc m) f = absurd (f (omega arith))

module _ (g : Base) (range : IsInRange g.header) (good : IsGood g) where
  -- what a seat may hold
  module _ (n : ℕ) (done : List BaseLine) (t : BaseSums) (b : Base) (so : SoFar done t b)
      (at : AtSeats g n t b) (l : n < g.header.seats) where
    has : SeatBase
    has = seat_of g n

    -- a number of the seats so far
    module _ (f : SeatBase → ℕ) (z : f nothing ≡ 0) where
      not_yet : (i : ℕ) → n ≤ i → f (seat_of b i) ≡ 0
      not_yet i m = ap f (so.summed.rest i (omega (arith, at.seats, m))) ∙ z

      under : (i : ℕ) → f (seat_of b i) ≤ f (seat_of g i)
      under i =
          ⊎_elim (λ m. omega (arith, ap f (at.same i m))) (λ m. omega (arith, not_yet i m)) (cases_lt i n)

      sum_under : total g.header.seats (λ i. f (seat_of b i)) + f (seat_of g n)
          ≤ total g.header.seats (λ i. f (seat_of g i))
      sum_under =
          total_less_by g.header.seats (λ i. f (seat_of b i)) (λ i. f (seat_of g i)) n (f (seat_of g n)) l
          under (omega (arith, not_yet n (omega arith)))

      sum_last : n + 1 ≡ g.header.seats → total g.header.seats (λ i. f (seat_of b i)) + f (seat_of g n)
          ≡ total g.header.seats (λ i. f (seat_of g i))
      sum_last q =
          let e = total_change g.header.seats (λ i. f (seat_of b i)) (λ i. f (seat_of g i)) n l
          (λ i ne. ⊎_elim (λ m. ap f (at.same i m))
          (λ m. not_yet i m
          ∙ sym (ap f (get_or_past g.seats i nothing (omega (arith, good.seats, m, ne, q))) ∙ z))
          (cases_lt i n)) in
          omega (arith, e, not_yet n (omega arith))

      sum_none : ((i : ℕ) → i ≢ n → f (seat_of g i) ≡ 0) → total g.header.seats (λ i. f (seat_of b i)) ≡ 0
      sum_none none =
          total_same g.header.seats (λ i. f (seat_of b i)) (λ i. 0)
          (λ i. ⊎_elim (λ m. ap f (at.same i m) ∙ none i (omega (arith, m))) (λ m. not_yet i m)
          (cases_lt i n))
          ∙ total_nothing g.header.seats

    calls_so_far : total g.header.seats (λ i. (seat_of b i).calls) ≡ t.calls
    calls_so_far = rw (← at.agrees.header) so.summed.calls

    exclusive_so_far : total g.header.seats (λ i. (seat_of b i).exclusive) ≡ t.exclusive
    exclusive_so_far = rw (← at.agrees.header) so.summed.exclusive

    shared_so_far : total g.header.seats (λ i. (seat_of b i).shared) ≡ t.shared
    shared_so_far = rw (← at.agrees.header) so.summed.shared

    -- where it owns, nobody before it holds anything
    owner_alone : IsOwned (based g) [] → 0 < (seat_of g n).exclusive → (t.exclusive ≡ 0) × (t.shared ≡ 0)
    owner_alone v p = (
      sym exclusive_so_far ∙ sum_none (λ x. x.exclusive) refl
          (λ i ne. none_if (seat_of g i).exclusive (λ q. ne (v.one i n q p))),
      sym shared_so_far ∙ sum_none (λ x. x.shared) refl
          (λ i ne. none_if (seat_of g i).shared (λ q. ne (sym (v.alone n i p q)))),
    )

    reader_alone : IsOwned (based g) [] → 0 < (seat_of g n).shared → t.exclusive ≡ 0
    reader_alone v p =
        sym exclusive_so_far ∙ sum_none (λ x. x.exclusive) refl
        (λ i ne. none_if (seat_of g i).exclusive (λ q. ne (v.alone i n q p)))

    holds : (o : Object) → g.header.object ≡ o → AreHeld o g → MayHold o g.header.seats t (seat_of g n)
    holds (Lock p) q v = (
      omega (arith, v.exclusive n, ap most_exclusive q),
      omega (arith, total_part g.header.seats (λ i. (seat_of g i).shared) n l, v.shared, ap most_shared q),
      ⊎_elim (λ x. inl ((owner_alone v x).0)) (λ x. inr (omega (arith, x)))
          (cases_lt 0 (seat_of g n).exclusive),
    )
    holds (ReadWrite p) q v = (
      omega (arith, v.exclusive n, ap most_exclusive q),
      omega (arith, sum_under (λ x. x.shared) refl, shared_so_far, v.shared, ap most_shared q),
      ⊎_elim (λ x. inr (owner_alone v x)) (λ x. inl (omega (arith, x)))
          (cases_lt 0 (seat_of g n).exclusive),
      ⊎_elim (λ x. inr (reader_alone v x)) (λ x. inl (omega (arith, x)))
          (cases_lt 0 (seat_of g n).shared),
    )
    holds (Semaphore p c) q v = (
      v.exclusive n,
      v.shared n,
      omega (
        arith,
        permits_lowest c (free (based g) []) g.unheld (total g.header.seats (λ i. (seat_of g i).shared))
            free_is v.lowest,
        sum_under (λ x. x.shared) refl,
        shared_so_far,
        at.agrees.unheld,
        so.summed.unheld,
      ),
      λ last. omega (
        arith,
        permits_highest c (free (based g) []) g.unheld (total g.header.seats (λ i. (seat_of g i).shared))
            free_is v.highest,
        sum_last (λ x. x.shared) refl (omega (arith, last, at.seats)),
        shared_so_far,
        at.agrees.unheld,
        so.summed.unheld,
      ),
    )
      where
        free_is : free (based g) []
            ≡ (c +ℤ pos g.unheld) -ℤ pos (total g.header.seats (λ i. (seat_of g i).shared))
        free_is =
            ap (λ o. (created o +ℤ pos g.unheld) -ℤ pos (total g.header.seats (λ i. (seat_of g i).shared))) q
    holds (Latch c) q v = (v n X, v n S)

    is_seated : IsSeated b.header t n (seat_of g n)
    is_seated =
        record {
          begun = at.begun;
          next = sym at.seats;
          seat = rw at.agrees.header l;
          calls = omega (arith, sum_under (λ x. x.calls) refl, calls_so_far, good.calls, at.agrees, so.summed);
          holds = rw at.agrees.header (holds g.header.object refl good.held);
        }

  -- who waits is free before
  small : (i : ℕ) → i < g.header.seats → i < MOST_SEATS
  small i l = omega (arith, l, range.seats)

  -- the line
  module _ (p : LinePlace) (front rest : List LinePlace) (done : List BaseLine) (t : BaseSums) (b : Base)
      (so : SoFar done t b) (at : AtLine g front t b) (e : front ++ p ∷ rest ≡ g.line) where
    well_here : StandsWell g p
    well_here =
        each_at (StandsWell g) front p rest (subst (AllByRecursion (StandsWell g)) (sym e) good.line)

    well_now : StandsWell b p
    well_now = stands_moved g b p (sym at.agrees.header) (sym at.seats) well_here

    stands_small : p.who.seat < MOST_SEATS
    stands_small = small p.who.seat (stands_seated g p well_here)

    not_before : waits_of b p.who.seat ≡ 0
    not_before =
        let count : List LinePlace → ℕ = λ l. times p.who.seat (seats_of (map (λ p. p.who) l)) in
        let none : total b.header.conditions (λ c. times p.who.seat (map (λ x. x.seat) (sleepers_of b c)))
        ≡ 0 = total_same b.header.conditions (λ c. times p.who.seat (map (λ x. x.seat) (sleepers_of b c))) (λ c. 0)
        (λ c. ap (λ l. times p.who.seat (map (λ (x : Sleeper). x.seat) l)) (at.sleepers c))
        ∙ total_nothing b.header.conditions in
        omega (
          arith,
          waits_once g good p.who.seat,
          ap count e,
          times_standing p.who.seat front (p ∷ rest),
          once_same p.who.seat p.who.seat refl,
          ap count at.line,
          none,
        )

    is_free_here : IsFree t p.who.seat
    is_free_here = at.agrees.free p.who.seat stands_small not_before

    may_stand : MayFollow t b (Stands p)
    may_stand = (at.all, at.asleep, is_free_here, well_now)

  -- the sleepers
  module _ (c : ℕ) (x : Sleeper) (front rest : List Sleeper) (done : List BaseLine) (t : BaseSums) (b : Base)
      (so : SoFar done t b) (at : AtSleepers g c front t b) (e : front ++ x ∷ rest ≡ sleepers_of g c) where
    sleeps_here : SleepsWell g c x
    sleeps_here =
        each_at (SleepsWell g c) front x rest
        (subst (AllByRecursion (SleepsWell g c)) (sym e) (good.sleepers c))

    sleeps_now : SleepsWell b c x
    sleeps_now = gave_moved g b x.seat c x.holds (sym at.agrees.header) (sym at.seats) sleeps_here

    abbrev count_in : List Sleeper → ℕ
    count_in l = times x.seat (map (λ x. x.seat) l)

    part_here : count_in (sleepers_of b c) + 1 ≤ count_in (sleepers_of g c)
    part_here =
        let d : count_in (front ++ x ∷ rest) ≡ count_in (sleepers_of g c) = ap count_in e in
        let a = times_sleeping x.seat front (x ∷ rest) in
        let o = once_same x.seat x.seat refl in
        let h : count_in (sleepers_of b c) ≡ count_in front = ap count_in at.here in
        omega (arith, d, a, o, h)

    part_there : (d : ℕ) → count_in (sleepers_of b d) ≤ count_in (sleepers_of g d)
    part_there d = grind (arith, part_here, at.before d, at.behind d)

    sleeps_not_before : waits_of b x.seat ≡ 0
    sleeps_not_before =
        omega (
          arith,
          waits_once g good x.seat,
          total_less_by g.header.conditions (λ d. count_in (sleepers_of b d))
              (λ d. count_in (sleepers_of g d)) c 1 sleeps_here.condition part_there part_here,
          ap (λ (h : Header). total h.conditions (λ d. count_in (sleepers_of b d))) at.agrees.header,
          ap (λ l. times x.seat (seats_of (map (λ p. p.who) l))) at.line,
        )

    sleeper_free : IsFree t x.seat
    sleeper_free = at.agrees.free x.seat (small x.seat sleeps_here.seat) sleeps_not_before

    may_sleep : MayFollow t b (Sleeps c x)
    may_sleep = (at.all, at.condition, sleeper_free, sleeps_now)

  first_may : 1 ≤ g.entries → (o : Object) → g.header.object ≡ o → AreCounted o g →
      MayFollow no_sums (opening_base g.header) (first_line o g)
  first_may some o q v = grind (arith, good.entries)

  counted_for : (o : Object) → AreCounted o g → IsCountedFor o g
  counted_for o v = grind arith

  pub good_told : 1 ≤ g.entries → IsTold g
  good_told some =
      base_told g range good.seats good.conditions (counted_for g.header.object good.counted)
      (λ t xs. Unit {0})
      (λ xs u. (some, first_may some g.header.object refl good.counted, tt))
      (λ n done t b so at l xs u. (is_seated n done t b so at l, tt))
      (λ p front rest done t b so at e xs u. (may_stand p front rest done t b so at e, tt))
      (λ c x front rest done t b so at e xs u. (may_sleep c x front rest done t b so at e, tt))
      tt

-- Each first lines of a good base follow one another.
pub good_follows : (k : Header) (b : Base) (xs more : List BaseLine) → IsInRange k → IsToldBase k b →
    base_lines b ≡ xs ++ more → Follow k xs
good_follows k b xs more range is e =
    subst (λ h. Follow h xs) is.header
    (follow_front no_sums (opening_base b.header) xs more
    (subst (λ l. Follow b.header l) e
    (good_told b (subst IsInRange (sym is.header) range) is.good is.some).follow))

-- All of them tell that base.
pub good_is_told : (k : Header) (b : Base) → IsInRange k → IsToldBase k b →
    AllSeated k (sums_of (base_lines b)) × (base_by k (base_lines b) ≡ b)
    × ((sums_of (base_lines b)).calls ≡ calls (based b) [])
good_is_told k b range is =
    let all = good_told b (subst IsInRange (sym is.header) range) is.good is.some in (
      subst (λ h. AllSeated h (sums_of (base_lines b))) is.header all.all,
      subst (λ h. base_by h (base_lines b) ≡ b) is.header all.same,
      all.calls,
    )
