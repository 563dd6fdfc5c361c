-- What lines of a base that follow one another tell so far: what holds of the numbers and of the base.
use Rattle.std.proofs.Common.{◌≡◌, ◌≢◌, inl, inr, ⊎_elim, ℕ, zero, suc, ◌+◌, ◌<◌, ◌≤◌, true, false, cond, eqb, List, [], ◌∷◌, ◌++◌, length, map, get_or, take, refl, ap, ◌∙◌, sym, subst, arith, ℤ, pos, neg_ℤ, ◌⊎◌, ◌≤ℤ◌, ◌+ℤ◌, ◌-ℤ◌, append-nil, append_assoc, get_or-set_same, get_or-set_other, length-take-le, length-set, take_all}
use Rattle.std.specs.List.{AllByRecursion}
use lib.IntN.{negsuc}
use Rattle.std.proofs.Math.ListN.{set}
use Rattle.std.proofs.lemmas.Bool.{cases_eq, cases_lt}
use Rattle.std.proofs.lemmas.Bool.Decides.{nat_tests}
use Rattle.deciding.proofs.HoldsFollow.{at_set}
use Rattle.std.proofs.lemmas.Int.{ints}
use Rattle.std.proofs.lemmas.List.{get_or_past, map-append, length-map, length-replicate, take_more_set}
use Rattle.history_text.specs.Below.{Arrival, SeatBase, Sleeper, LinePlace, Mode, X, S, Header, Object, Lock, ReadWrite, Semaphore, Latch, Base, based, each_below, nothing, opening_base, seat_of, sleepers_of, free, held, total, MOST_AMOUNT, MOST_BASE_PERMITS, MOST_FOLDED, MOST_SEATS, AreCounted, AreHeld, GaveUp, IsGood, SleepsWell, StandsWell, IsInRange, created, is_latch, is_lock, is_semaphore, opening_count, IsOwned, most_exclusive, most_shared, line, at_least_none, IsOneWait, seats_of, times}
use Rattle.history.proofs.Folding.{get_or-each, length-each}
use Rattle.history.proofs.LineLemmas.{line_at_first}
use Rattle.history.proofs.OpeningBase.{no_seat, nothing_summed, opening_good}
use Rattle.history.proofs.SleepLemmas.{times-waiting}
use Rattle.history.proofs.Sums.{total_nothing, total_same}
use Rattle.history.proofs.Times.{each-append, one_if, pigeonhole_less, total_part}
use Rattle.history_text.specs.Prelude.{BaseLine, Folded, Released, CountedDown, Seat, Stands, Sleeps, AllRead, with_lines, after_told, Follow, base_by, sums_of, IsToldBase, base_lines, first_line, seat_lines, sleeper_lines, lines_so_far, AllSeated, IsFirst, IsFree, IsSeated, MayFollow, MayHold, BaseSums, with_sums, no_sums, with_line}
use Rattle.history_text.proofs.BasePlaces.{each_then, first_line_same, no_lines, seat_lines_push, sleeper_lines_push, times_standing, total_put, total_sleeps}

-- how often a seat waits
abbrev pub waits_of : Base → ℕ → ℕ
waits_of b i =
    times i (seats_of (map (λ p. p.who) b.line))
    + total b.header.conditions (λ c. times i (map (λ x. x.seat) (sleepers_of b c)))

-- the numbers and the seats
pub record Summed (t : BaseSums) (b : Base) : Type 0 where
  pub entries : b.entries ≡ t.entries
  pub unheld : b.unheld ≡ t.unheld
  pub length : length b.seats ≡ b.header.seats
  pub seats : t.seats ≤ b.header.seats
  pub rest : (i : ℕ) → t.seats ≤ i → seat_of b i ≡ nothing
  pub calls : total b.header.seats (λ i. (seat_of b i).calls) ≡ t.calls
  pub exclusive : total b.header.seats (λ i. (seat_of b i).exclusive) ≡ t.exclusive
  pub shared : total b.header.seats (λ i. (seat_of b i).shared) ≡ t.shared
  pub few : t.calls ≤ t.entries
  pub most : t.entries ≤ MOST_FOLDED

-- the permits of a semaphore so far
pub record PermitsSoFar (created : ℤ) (t : BaseSums) (b : Base) : Type 0 where
  pub exclusive : (i : ℕ) → (seat_of b i).exclusive ≡ 0
  pub shared : (i : ℕ) → (seat_of b i).shared ≤ MOST_BASE_PERMITS
  pub lowest : t.shared ≤ t.unheld + at_least_none created
  pub highest : t.seats ≡ b.header.seats →
      t.unheld + at_least_none created ≤ MOST_AMOUNT + t.shared + at_least_none (neg_ℤ created)

abbrev pub HeldSoFar : Object → BaseSums → Base → Type 0
HeldSoFar (Lock policy) t b = IsOwned (based b) []
HeldSoFar (ReadWrite policy) t b = IsOwned (based b) []
HeldSoFar (Semaphore policy permits) t b = PermitsSoFar permits t b
HeldSoFar (Latch opening) t b = (i : ℕ) (m : Mode) → held (based b) [] i m ≡ 0

-- who waits
pub record Waited (t : BaseSums) (b : Base) : Type 0 where
  pub places : length t.waits ≡ MOST_SEATS
  pub free : (i : ℕ) → i < MOST_SEATS → get_or t.waits i false ≡ false → waits_of b i ≡ 0
  pub once : (i : ℕ) → waits_of b i ≤ 1
  pub conditions : length b.sleepers ≡ b.header.conditions
  pub line : AllByRecursion (StandsWell b) b.line
  pub sleepers : (c : ℕ) → AllByRecursion (SleepsWell b c) (sleepers_of b c)
  pub awake : t.asleep ≡ false → (c : ℕ) → sleepers_of b c ≡ []
  pub later : (c : ℕ) → t.condition < c → sleepers_of b c ≡ []
  pub nobody : t.seats < b.header.seats → (b.line ≡ []) × ((c : ℕ) → sleepers_of b c ≡ [])

-- which lines those were
pub record Spelt (done : List BaseLine) (t : BaseSums) (b : Base) : Type 0 where
  pub none : t.entries ≡ 0 → (t.seats ≡ 0) × (t.shared ≡ 0) × (done ≡ [])
  pub some : 1 ≤ t.entries → done ≡ lines_so_far t b

pub record SoFar (done : List BaseLine) (t : BaseSums) (b : Base) : Type 0 where
  pub range : IsInRange b.header
  pub summed : Summed t b
  pub counted : AreCounted b.header.object b
  pub held : HeldSoFar b.header.object t b
  pub waited : Waited t b
  pub spelt : Spelt done t b

-- those told in line and those told on a condition are seats, and each of them once
pub stands_seated : (b : Base) (p : LinePlace) → StandsWell b p → p.who.seat < b.header.seats
stands_seated b p well = ⊎_elim (λ asks. asks.1.seat) (λ comes. comes.1.gave.seat) well

line_seated : (b : Base) (q : List LinePlace) → AllByRecursion (StandsWell b) q →
    AllByRecursion (λ i. i < b.header.seats) (seats_of (map (λ p. p.who) q))
line_seated b [] all = tt
line_seated b (p ∷ q) all = (stands_seated b p all.0, line_seated b q all.1)

sleepers_seated : (b : Base) (c : ℕ) (q : List Sleeper) → AllByRecursion (SleepsWell b c) q →
    AllByRecursion (λ i. i < b.header.seats) (map (λ x. x.seat) q)
sleepers_seated b c [] all = tt
sleepers_seated b c (x ∷ q) all = (all.0.seat, sleepers_seated b c q all.1)

-- so one that waits nowhere finds a place
pub line_place : (done : List BaseLine) (t : BaseSums) (b : Base) → SoFar done t b → (p : LinePlace) →
    StandsWell b p → IsFree t p.who.seat → length b.line < b.header.seats
line_place done t b so p well is_free =
    let seat = stands_seated b p well in
    let none = so.waited.free p.who.seat (let most = so.range.seats in omega (arith, seat, most)) is_free in
    let few = pigeonhole_less b.header.seats (seats_of (map (λ q. q.who) b.line)) p.who.seat
    (line_seated b b.line so.waited.line) (λ i. let one = so.waited.once i in omega (arith, one)) seat
    (omega (arith, none)) in
    let arrivals = length-map (map (λ q. q.who) b.line) (λ (a : Arrival). a.seat) in
    let standings = length-map b.line (λ (q : LinePlace). q.who) in
    omega (arith, few, arrivals, standings)

pub asleep_place : (done : List BaseLine) (t : BaseSums) (b : Base) → SoFar done t b → (c : ℕ) (x : Sleeper) →
    SleepsWell b c x → IsFree t x.seat → length (sleepers_of b c) < b.header.seats
asleep_place done t b so c x well is_free =
    let most = so.range.seats in
    let seat = well.seat in
    let none = so.waited.free x.seat (omega (arith, seat, most)) is_free in
    let few = pigeonhole_less b.header.seats (map (λ y. y.seat) (sleepers_of b c)) x.seat
    (sleepers_seated b c (sleepers_of b c) (so.waited.sleepers c)) (λ i.
    let one = so.waited.once i in
    let part = on_one i in
    omega (arith, one, part)) seat
    (let part = on_one x.seat in omega (arith, none, part)) in
    let sleepers = length-map (sleepers_of b c) (λ (y : Sleeper). y.seat) in
    omega (arith, few, sleepers)
  where
    on_one : (i : ℕ) → times i (map (λ y. y.seat) (sleepers_of b c))
        ≤ total b.header.conditions (λ d. times i (map (λ y. y.seat) (sleepers_of b d)))
    on_one i =
        total_part b.header.conditions (λ d. times i (map (λ y. y.seat) (sleepers_of b d))) c well.condition

-- what waits well speaks of the header and the seats alone
pub gave_moved : (a b : Base) (i c n : ℕ) → a.header ≡ b.header → a.seats ≡ b.seats → GaveUp a i c n →
    GaveUp b i c n
gave_moved a b i c n h s g = grind (arith, g.nothing)

pub stands_moved : (a b : Base) (p : LinePlace) → a.header ≡ b.header → a.seats ≡ b.seats → StandsWell a p →
    StandsWell b p
stands_moved a b p h s w = grind (arith, gave_moved a b p.who.seat p.condition p.holds h s)

pub no_sleepers : (k : Header) (c : ℕ) → sleepers_of (opening_base k) c ≡ []
no_sleepers k c =
    ⊎_elim (λ l. get_or-each k.conditions (λ c. []) c [] l)
    (λ l. get_or_past (each_below k.conditions (λ c. [])) c []
    (let e = length-each {A = List Sleeper} k.conditions (λ c. []) in omega (arith, e, l)))
    (cases_lt c k.conditions)

-- nothing was told
module _ (k : Header) (range : IsInRange k) where
  held_none : (o : Object) → AreHeld o (opening_base k) → HeldSoFar o no_sums (opening_base k)
  held_none o v = grind (arith, range.some_seat)

  pub nobody_waits : (i : ℕ) → waits_of (opening_base k) i ≡ 0
  nobody_waits i =
      let z : total k.conditions (λ c. times i (map (λ x. x.seat) (sleepers_of (opening_base k) c))) ≡ 0 =
      total_same k.conditions (λ c. times i (map (λ x. x.seat) (sleepers_of (opening_base k) c))) (λ c. 0)
      (λ c. ap (λ l. times i (map (λ (x : Sleeper). x.seat) l)) (no_sleepers k c))
      ∙ total_nothing k.conditions in
      omega (arith, z)

  pub begun : SoFar [] no_sums (opening_base k)
  begun =
      record {
        range = range;
        summed = record {
          entries = refl;
          unheld = refl;
          length = length-each k.seats (λ i. nothing);
          seats = omega arith;
          rest = λ i l. no_seat k i;
          calls = nothing_summed k (λ x. x.calls) refl;
          exclusive = nothing_summed k (λ x. x.exclusive) refl;
          shared = nothing_summed k (λ x. x.shared) refl;
          few = omega arith;
          most = omega arith;
        };
        counted = (opening_good k range).counted;
        held = held_none k.object (opening_good k range).held;
        waited = record {
          places = length-replicate MOST_SEATS false;
          free = λ i l f. nobody_waits i;
          once = λ i. omega (arith, nobody_waits i);
          conditions = length-each k.conditions (λ c. []);
          line = tt;
          sleepers = (opening_good k range).sleepers;
          awake = λ f c. no_sleepers k c;
          later = λ c l. no_sleepers k c;
          nobody = λ l. (refl, no_sleepers k);
        };
        spelt = record { none = λ z. (refl, refl, refl); some = λ l. absurd (omega (arith, l)) };
      }

-- the first line
module _ (done : List BaseLine) (t : BaseSums) (b : Base) (so : SoFar done t b) (n u v q : ℕ) where
  abbrev now : Base
  now = record b { entries = n; unheld = v; count = q }

  abbrev then : BaseSums
  then = record t { entries = n; unheld = u }

  held_first : (o : Object) → t.entries ≡ 0 → HeldSoFar o t b → HeldSoFar o then now
  held_first o z v = grind (arith, so.spelt.none z, so.range.some_seat)

  pub first_told : (x : BaseLine) → v ≡ u → IsFirst t n → AreCounted b.header.object now →
      first_line b.header.object now ≡ x → SoFar (done ++ x ∷ []) then now
  first_told x same first counted e =
      record {
        range = so.range;
        summed = let few : t.calls ≤ n = omega (arith, so.summed.few, first.none) in assumption;
        counted = counted;
        held = held_first b.header.object first.none so.held;
        waited = let line = each_then (StandsWell b) (StandsWell now)
            (λ p w. stands_moved b now p refl refl w) b.line so.waited.line in
            let sleepers = λ (c : ℕ). each_then (SleepsWell b c) (SleepsWell now c)
            (λ y w. gave_moved b now y.seat c y.holds refl refl w) (sleepers_of b c) (so.waited.sleepers c) in
            assumption (line, sleepers, so.waited);
        spelt = record {
          none = λ z. absurd (omega (arith, first.some, z));
          some = λ l. simp (← e, none.0, none.2, nobody.0, no_lines 0 b.sleepers nobody.1);
        };
      }
    where
      none : (t.seats ≡ 0) × (t.shared ≡ 0) × (done ≡ [])
      none = so.spelt.none first.none

      nobody : (b.line ≡ []) × ((c : ℕ) → sleepers_of b c ≡ [])
      nobody = so.waited.nobody (omega (arith, none.0, so.range.some_seat))

-- a part is no more than the sum
part : (t : BaseSums) (b : Base) → Summed t b → (f : SeatBase → ℕ) → f nothing ≡ 0 → (j : ℕ) →
    f (seat_of b j) ≤ total b.header.seats (λ i. f (seat_of b i))
part t b sums f z j =
    ⊎_elim (λ l. total_part b.header.seats (λ i. f (seat_of b i)) j l)
    (λ l. omega (arith, ap f (sums.rest j (omega (arith, sums.seats, l))), z))
    (cases_lt j b.header.seats)

-- a seat
module _ (done : List BaseLine) (t : BaseSums) (b : Base) (so : SoFar done t b) (i : ℕ) (has : SeatBase)
    (seated : IsSeated b.header t i has) where
  abbrev with_seat : Base
  with_seat = record b { seats = set b.seats i has }

  abbrev seat_told : BaseSums
  seat_told =
      record t {
        seats = t.seats + 1;
        calls = t.calls + has.calls;
        exclusive = t.exclusive + has.exclusive;
        shared = t.shared + has.shared;
      }

  sums : Summed t b
  sums = so.summed

  within : i < length b.seats
  within = omega (arith, sums.length, seated.seat)

  now_at : (j : ℕ) → seat_of with_seat j ≡ cond (eqb i j) has (seat_of b j)
  now_at j = at_set b.seats i j has nothing within

  was_nothing : seat_of b i ≡ nothing
  was_nothing = sums.rest i (omega (arith, seated.next))

  more : (f : SeatBase → ℕ) → f nothing ≡ 0 →
      total b.header.seats (λ j. f (seat_of with_seat j))
      ≡ total b.header.seats (λ j. f (seat_of b j)) + f has
  more f z = total_put b.header.seats f b.seats i has seated.seat within (ap f was_nothing ∙ z)

  none_exclusive : t.exclusive ≡ 0 → (j : ℕ) → (seat_of b j).exclusive ≡ 0
  none_exclusive z j = omega (arith, part t b sums (λ x. x.exclusive) refl j, sums.exclusive, z)

  none_shared : t.shared ≡ 0 → (j : ℕ) → (seat_of b j).shared ≡ 0
  none_shared z j = omega (arith, part t b sums (λ x. x.shared) refl j, sums.shared, z)

  summed_seat : Summed seat_told with_seat
  summed_seat =
      record {
        entries = sums.entries;
        unheld = sums.unheld;
        length = length-set b.seats i has ∙ sums.length;
        seats = omega (arith, seated.next, seated.seat);
        rest = λ j l. grind (arith, nat_tests, now_at j, sums.rest j, seated.next);
        calls = more (λ x. x.calls) refl ∙ ap (λ n. n + has.calls) sums.calls;
        exclusive = more (λ x. x.exclusive) refl ∙ ap (λ n. n + has.exclusive) sums.exclusive;
        shared = more (λ x. x.shared) refl ∙ ap (λ n. n + has.shared) sums.shared;
        few = seated.calls;
        most = sums.most;
      }

  owned_seat : IsOwned (based b) [] → has.exclusive ≤ most_exclusive b.header.object →
      t.shared + has.shared ≤ most_shared b.header.object →
      (has.exclusive ≡ 0) ⊎ ((t.exclusive ≡ 0) × (t.shared ≡ 0)) →
      (has.shared ≡ 0) ⊎ (t.exclusive ≡ 0) → IsOwned (based with_seat) []
  owned_seat was few together no_owner no_reader =
      record {
        one = λ j k. grind (arith, nat_tests, now_at j, now_at k, was.one j k, none_exclusive);
        alone = λ j k. grind (arith, nat_tests, now_at j, now_at k, was.alone j k, none_exclusive, none_shared);
        exclusive = λ j. grind (arith, nat_tests, now_at j, was.exclusive j);
        shared = omega (arith, more (λ x. x.shared) refl, sums.shared, together);
      }

  held_seat : (o : Object) → b.header.object ≡ o → HeldSoFar o t b → MayHold o b.header.seats t has →
      HeldSoFar o seat_told with_seat
  held_seat (Lock p) q v may =
      let none : t.shared ≡ 0 = omega (arith, v.shared, ap most_shared q, sums.shared) in
      owned_seat v (omega (arith, ap most_exclusive q, may.0)) (omega (arith, may.1, none))
      (⊎_elim (λ z. inr (z, none)) (λ z. inl z) may.2) (inl may.1)
  held_seat (ReadWrite p) q v may =
      owned_seat v (omega (arith, ap most_exclusive q, may.0)) (omega (arith, ap most_shared q, may.1))
      may.2 may.3
  held_seat (Semaphore p c) q v may =
      record {
        exclusive = λ j. grind (arith, nat_tests, now_at j, v.exclusive j);
        shared = λ j. grind (arith, nat_tests, now_at j, v.shared j);
        lowest = may.2;
        highest = may.3;
      }
  held_seat (Latch c) q v may = λ j m. grind (arith, nat_tests, now_at j, v j X, v j S)

  pub seat_follows : AreCounted b.header.object with_seat →
      SoFar (done ++ Seat i has ∷ []) seat_told with_seat
  seat_follows counted =
      record {
        range = so.range;
        summed = summed_seat;
        counted = counted;
        held = held_seat b.header.object refl so.held seated.holds;
        waited = let line = subst (AllByRecursion (StandsWell with_seat)) (sym nobody.0) tt in
            let sleepers = λ (c : ℕ). subst (AllByRecursion (SleepsWell with_seat c)) (sym (nobody.1 c)) tt in
            assumption (line, sleepers, nobody, so.waited);
        spelt = record {
          none = λ z. absurd (omega (arith, seated.begun, z));
          some = λ l. simp (so.spelt.some seated.begun, none_behind, seats_now, append-nil, same_first);
        };
      }
    where
      nobody : (b.line ≡ []) × ((c : ℕ) → sleepers_of b c ≡ [])
      nobody = so.waited.nobody (omega (arith, seated.next, seated.seat))

      none_behind : map Stands b.line ++ sleeper_lines 0 b.sleepers ≡ []
      none_behind = simp (nobody.0, no_lines 0 b.sleepers nobody.1)

      same_first : first_line b.header.object b ≡ first_line b.header.object with_seat
      same_first = first_line_same b.header.object b with_seat refl refl refl

      seats_now : seat_lines 0 (take (t.seats + 1) (set b.seats i has))
          ≡ seat_lines 0 (take t.seats b.seats) ++ Seat i has ∷ []
      seats_now =
          ap (λ n. seat_lines 0 (take (n + 1) (set b.seats i has))) (sym seated.next)
          ∙ ap (seat_lines 0) (take_more_set b.seats i has within)
          ∙ seat_lines_push 0 (take i b.seats) has i
          (omega (arith, length-take-le i b.seats (omega (arith, within))))
          ∙ ap (λ n. seat_lines 0 (take n b.seats) ++ Seat i has ∷ []) seated.next

-- who waits is marked, and waits once
module _ (t : BaseSums) (b : Base) (w : Waited t b) (s : ℕ) (small : s < MOST_SEATS) (is_free : IsFree t s)
    (after : ℕ → ℕ) (more : (i : ℕ) → after i ≡ waits_of b i + one_if (eqb s i)) where
  marked_once : (i : ℕ) → after i ≤ 1
  marked_once i = grind (arith, nat_tests, more i, w.free s small is_free, w.once i)

  marked_free : (i : ℕ) → i < MOST_SEATS → get_or (set t.waits s true) i false ≡ false → after i ≡ 0
  marked_free i l f =
      let now = at_set t.waits s i true false (omega (arith, w.places, small)) in
      grind (arith, nat_tests, more i, now, w.free i l)

  marked_places : length (set t.waits s true) ≡ MOST_SEATS
  marked_places = length-set t.waits s true ∙ w.places

-- one in line
module _ (done : List BaseLine) (t : BaseSums) (b : Base) (so : SoFar done t b) (p : LinePlace)
    (all : AllSeated b.header t) (awake : t.asleep ≡ false) (is_free : IsFree t p.who.seat)
    (well : StandsWell b p) where
  abbrev with_standing : Base
  with_standing = record b { line = b.line ++ p ∷ [] }

  abbrev stands_told : BaseSums
  stands_told = record t { waits = set t.waits p.who.seat true }

  stands_small : p.who.seat < MOST_SEATS
  stands_small = omega (arith, so.range.seats, stands_seated b p well)

  pub stands_more : (i : ℕ) → waits_of with_standing i ≡ waits_of b i + one_if (eqb p.who.seat i)
  stands_more i = omega (arith, times_standing i b.line (p ∷ []))

  held_stands : (o : Object) → HeldSoFar o t b → HeldSoFar o stands_told with_standing
  held_stands o v = grind arith

  pub stands_follow : AreCounted b.header.object with_standing →
      SoFar (done ++ Stands p ∷ []) stands_told with_standing
  stands_follow counted =
      record {
        range = so.range;
        summed = assumption;
        counted = counted;
        held = held_stands b.header.object so.held;
        waited = record {
          places = marked_places _ _ so.waited p.who.seat stands_small is_free _ stands_more;
          free = marked_free _ _ so.waited p.who.seat stands_small is_free _ stands_more;
          once = marked_once _ _ so.waited p.who.seat stands_small is_free _ stands_more;
          conditions = so.waited.conditions;
          line = each-append (StandsWell with_standing) b.line (p ∷ [])
              (each_then (StandsWell b) (StandsWell with_standing)
              (λ p w. stands_moved b with_standing p refl refl w) b.line so.waited.line)
              (stands_moved b with_standing p refl refl well, tt);
          sleepers = λ c. each_then (SleepsWell b c) (SleepsWell with_standing c)
              (λ y w. gave_moved b with_standing y.seat c y.holds refl refl w)
              (sleepers_of b c)
              (so.waited.sleepers c);
          awake = so.waited.awake;
          later = so.waited.later;
          nobody = λ l. absurd (omega (arith, all.seats, l));
        };
        spelt = record {
          none = λ z. absurd (omega (arith, all.begun, z));
          some = λ l. simp (
            so.spelt.some all.begun,
            no_lines 0 b.sleepers (so.waited.awake awake),
            map-append,
            append_assoc,
            append-nil,
            first_line_same b.header.object b with_standing refl refl refl,
          );
        };
      }

-- one who sleeps
module _ (done : List BaseLine) (t : BaseSums) (b : Base) (so : SoFar done t b) (c : ℕ) (x : Sleeper)
    (all : AllSeated b.header t) (order : t.condition ≤ c) (is_free : IsFree t x.seat)
    (well : SleepsWell b c x) where
  abbrev with_sleeper : Base
  with_sleeper = record b { sleepers = set b.sleepers c (sleepers_of b c ++ x ∷ []) }

  abbrev sleeps_told : BaseSums
  sleeps_told = record t { waits = set t.waits x.seat true; asleep = true; condition = c }

  sleeps_small : x.seat < MOST_SEATS
  sleeps_small = omega (arith, so.range.seats, well.seat)

  pub on_condition : c < length b.sleepers
  on_condition = omega (arith, so.waited.conditions, well.condition)

  pub sleeps_more : (i : ℕ) → waits_of with_sleeper i ≡ waits_of b i + one_if (eqb x.seat i)
  sleeps_more i =
      omega (arith, total_sleeps b.header.conditions i b.sleepers c x well.condition on_condition)

  held_sleeps : (o : Object) → HeldSoFar o t b → HeldSoFar o sleeps_told with_sleeper
  held_sleeps o v = grind arith

  sleepers_here : (d : ℕ) → d ≡ c → sleepers_of with_sleeper d ≡ sleepers_of b c ++ x ∷ []
  sleepers_here d e =
      ap (λ n. get_or (set b.sleepers c (sleepers_of b c ++ x ∷ [])) n []) e
      ∙ get_or-set_same b.sleepers c (sleepers_of b c ++ x ∷ []) [] on_condition

  sleepers_other : (d : ℕ) → d ≢ c → sleepers_of with_sleeper d ≡ sleepers_of b d
  sleepers_other d ne = get_or-set_other b.sleepers c d (sleepers_of b c ++ x ∷ []) [] ne

  kept_well : (d : ℕ) (xs : List Sleeper) → AllByRecursion (SleepsWell b d) xs →
      AllByRecursion (SleepsWell with_sleeper d) xs
  kept_well d xs =
      each_then (SleepsWell b d) (SleepsWell with_sleeper d)
      (λ y w. gave_moved b with_sleeper y.seat d y.holds refl refl w) xs

  sleep_well : (d : ℕ) → AllByRecursion (SleepsWell with_sleeper d) (sleepers_of with_sleeper d)
  sleep_well d =
      ⊎_elim
      (λ e. subst (AllByRecursion (SleepsWell with_sleeper d)) (sym (sleepers_here d e))
      (subst (λ n. AllByRecursion (SleepsWell with_sleeper n) (sleepers_of b c ++ x ∷ [])) (sym e)
      (each-append (SleepsWell with_sleeper c) (sleepers_of b c) (x ∷ [])
      (kept_well c (sleepers_of b c) (so.waited.sleepers c))
      (gave_moved b with_sleeper x.seat c x.holds refl refl well, tt))))
      (λ ne. subst (AllByRecursion (SleepsWell with_sleeper d)) (sym (sleepers_other d ne))
      (kept_well d (sleepers_of b d) (so.waited.sleepers d)))
      (cases_eq d c)

  pub sleeps_follow : AreCounted b.header.object with_sleeper →
      SoFar (done ++ Sleeps c x ∷ []) sleeps_told with_sleeper
  sleeps_follow counted =
      record {
        range = so.range;
        summed = assumption;
        counted = counted;
        held = held_sleeps b.header.object so.held;
        waited = record {
          places = marked_places _ _ so.waited x.seat sleeps_small is_free _ sleeps_more;
          free = marked_free _ _ so.waited x.seat sleeps_small is_free _ sleeps_more;
          once = marked_once _ _ so.waited x.seat sleeps_small is_free _ sleeps_more;
          conditions = length-set b.sleepers c (sleepers_of b c ++ x ∷ []) ∙ so.waited.conditions;
          line = each_then (StandsWell b) (StandsWell with_sleeper)
              (λ p w. stands_moved b with_sleeper p refl refl w) b.line so.waited.line;
          sleepers = sleep_well;
          awake = λ f. cc;
          later = λ d l. (let ne : d ≢ c = omega (arith, l) in sleepers_other d ne
              ∙ so.waited.later d (omega (arith, order, l)));
          nobody = λ l. absurd (omega (arith, all.seats, l));
        };
        spelt = record {
          none = λ z. absurd (omega (arith, all.begun, z));
          some = λ l. simp (
            so.spelt.some all.begun,
            append_assoc,
            sleeper_lines_push 0 b.sleepers c c x (omega arith) on_condition
                (λ d l. so.waited.later d (omega (arith, order, l))),
            first_line_same b.header.object b with_sleeper refl refl refl,
          );
        };
      }

-- what a base counts stays with its numbers
counted_same : (o : Object) (a b : Base) → a.unheld ≡ b.unheld → a.count ≡ b.count → AreCounted o a →
    AreCounted o b
counted_same o a b u q v = grind arith

folded_only : (o : Object) (b : Base) (n : ℕ) → is_lock o ≡ true →
    first_line o (record b { entries = n }) ≡ Folded n
folded_only o b n t = grind arith

released : (o : Object) (b : Base) (n u : ℕ) → is_semaphore o ≡ true → u ≤ MOST_BASE_PERMITS →
    AreCounted o b →
    AreCounted o (record b { entries = n; unheld = u })
    × (first_line o (record b { entries = n; unheld = u }) ≡ Released n u)
released o b n u t l v = grind arith

counted_down : (o : Object) (b : Base) (n q : ℕ) → is_latch o ≡ true → q ≤ opening_count o → AreCounted o b →
    AreCounted o (record b { entries = n; count = q })
    × (first_line o (record b { entries = n; count = q }) ≡ CountedDown n q)
counted_down o b n q t l v = grind arith

-- one line more
pub goes_on : (done : List BaseLine) (t : BaseSums) (b : Base) (x : BaseLine) → SoFar done t b →
    MayFollow t b x → SoFar (done ++ x ∷ []) (with_sums t x) (with_line b x)
goes_on done t b (Folded n) so may =
    first_told done t b so n t.unheld b.unheld b.count (Folded n) so.summed.unheld may.0
    (counted_same b.header.object b (record b { entries = n }) refl refl so.counted)
    (folded_only b.header.object b n may.1)
goes_on done t b (Released n u) so may =
    let r = released b.header.object b n u may.1 may.2 so.counted in
    first_told done t b so n u u b.count (Released n u) refl may.0 r.0 r.1
goes_on done t b (CountedDown n q) so may =
    let r = counted_down b.header.object b n q may.1 may.2 so.counted in
    first_told done t b so n t.unheld b.unheld q (CountedDown n q) so.summed.unheld may.0 r.0 r.1
goes_on done t b (Seat i has) so may =
    seat_follows done t b so i has may
    (counted_same b.header.object b (record b { seats = set b.seats i has }) refl refl so.counted)
goes_on done t b (Stands p) so may =
    stands_follow done t b so p may.0 may.1 may.2 may.3
    (counted_same b.header.object b (record b { line = b.line ++ p ∷ [] }) refl refl so.counted)
goes_on done t b (Sleeps c x) so may =
    sleeps_follow done t b so c x may.0 may.1 may.2 may.3
    (counted_same b.header.object b (record b { sleepers = set b.sleepers c (sleepers_of b c ++ x ∷ []) })
    refl refl so.counted)

-- all lines
pub all_told : (done xs : List BaseLine) (t : BaseSums) (b : Base) → SoFar done t b → AllRead b t xs →
    SoFar (done ++ xs) (after_told t xs) (with_lines b xs)
all_told done [] t b so follow = subst (λ l. SoFar l t b) (sym (append-nil done)) so
all_told done (x ∷ xs) t b so follow =
    subst (λ l. SoFar l (after_told (with_sums t x) xs) (with_lines (with_line b x) xs))
    (append_assoc done (x ∷ []) xs)
    (all_told (done ++ x ∷ []) xs (with_sums t x) (with_line b x) (goes_on done t b x so follow.0) follow.1)

pub header_kept : (b : Base) (x : BaseLine) → (with_line b x).header ≡ b.header
header_kept b x = grind arith

pub header_after : (b : Base) (xs : List BaseLine) → (with_lines b xs).header ≡ b.header
header_after b [] = refl
header_after b (x ∷ xs) = header_after (with_line b x) xs ∙ header_kept b x

pub told_so_far : (k : Header) (xs : List BaseLine) → IsInRange k → Follow k xs →
    SoFar xs (sums_of xs) (base_by k xs)
told_so_far k xs range follow = all_told [] xs no_sums (opening_base k) (begun k range) follow

-- the free permits, from the numbers
pub pos_kept : (n : ℕ) → at_least_none (pos n) ≡ n
pos_kept n = grind (arith, nat_tests)

pub none_kept : (n : ℕ) → at_least_none (negsuc n) ≡ 0
none_kept n = refl

few_free : (c f : ℤ) (u s : ℕ) → f ≡ (c +ℤ pos u) -ℤ pos s → s ≤ u + at_least_none c →
    u + at_least_none c ≤ MOST_AMOUNT + s + at_least_none (neg_ℤ c) →
    ((pos 0 ≤ℤ f) ⊎ (c ≤ℤ f)) × (f ≤ℤ pos MOST_AMOUNT)
few_free (pos zero) f u s e l m = (inl (omega (arith, ints)), omega (arith, ints))
few_free (pos (suc n)) f u s e l m =
    (inl (omega (arith, ints, pos_kept (suc n))), omega (arith, ints, pos_kept (suc n), none_kept n))
few_free (negsuc n) f u s e l m =
    (inr (omega (arith, ints)), omega (arith, ints, pos_kept (suc n), none_kept n))

-- a base that was told whole
module _ (done : List BaseLine) (t : BaseSums) (b : Base) (so : SoFar done t b)
    (all : AllSeated b.header t) where
  held_whole : (o : Object) → b.header.object ≡ o → HeldSoFar o t b → AreHeld o b
  held_whole (Lock p) q v = v
  held_whole (ReadWrite p) q v = v
  held_whole (Semaphore p c) q v =
      record { exclusive = v.exclusive; shared = v.shared; lowest = few.0; highest = few.1 }
    where
      few : ((pos 0 ≤ℤ free (based b) []) ⊎ (c ≤ℤ free (based b) [])) × (free (based b) [] ≤ℤ pos MOST_AMOUNT)
      few =
          few_free c (free (based b) []) t.unheld t.shared
          (ap (λ o. (created o +ℤ pos b.unheld) -ℤ pos (total b.header.seats (λ i. (seat_of b i).shared))) q
          ∙ ap (λ n. (c +ℤ pos n) -ℤ pos (total b.header.seats (λ i. (seat_of b i).shared))) so.summed.unheld
          ∙ ap (λ n. (c +ℤ pos t.unheld) -ℤ pos n) so.summed.shared)
          v.lowest (v.highest all.seats)
  held_whole (Latch c) q v = v

  once_whole : IsOneWait (based b) []
  once_whole i =
      let w = times-waiting (based b) [] i in
      let o = so.waited.once i in
      let l : times i (seats_of (line (based b) [])) ≡ times i (seats_of (map (λ p. p.who) b.line)) =
      ap (λ q. times i (seats_of q)) (line_at_first (based b)) in
      omega (arith, w, o, l)

  pub whole_good : IsGood b
  whole_good =
      record {
        entries = omega (arith, so.summed.entries, so.summed.most);
        seats = so.summed.length;
        conditions = so.waited.conditions;
        calls = omega (arith, so.summed.calls, so.summed.entries, so.summed.few);
        counted = so.counted;
        held = held_whole b.header.object refl so.held;
        once = once_whole;
        line = so.waited.line;
        sleepers = so.waited.sleepers;
      }

  pub whole_lines : done ≡ base_lines b
  whole_lines =
      so.spelt.some all.begun
      ∙ ap (λ l. first_line b.header.object b ∷ (seat_lines 0 l ++ (map Stands b.line ++
      sleeper_lines 0 b.sleepers)))
      (take_all t.seats b.seats (omega (arith, so.summed.length, all.seats)))

-- Lines that follow one another and tell all seats are those of a good base.
pub whole_told : (k : Header) (xs : List BaseLine) → IsInRange k → Follow k xs → AllSeated k (sums_of xs) →
    (xs ≡ base_lines (base_by k xs)) × IsToldBase k (base_by k xs)
whole_told k xs range follow all = (
  whole_lines xs (sums_of xs) (base_by k xs) so seated,
  record {
    header = same;
    some = omega (arith, so.summed.entries, all.begun);
    good = whole_good xs (sums_of xs) (base_by k xs) so seated;
  },
)
  where
    so : SoFar xs (sums_of xs) (base_by k xs)
    so = told_so_far k xs range follow

    same : (base_by k xs).header ≡ k
    same = header_after (opening_base k) xs

    seated : AllSeated (base_by k xs).header (sums_of xs)
    seated = subst (λ h. AllSeated h (sums_of xs)) (sym same) all
