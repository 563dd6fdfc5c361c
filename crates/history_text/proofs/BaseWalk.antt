-- The lines of a base, told one by one: what the base so far has of the whole one.
use Rattle.std.proofs.Common.{◌≡◌, ℕ, zero, suc, ◌+◌, ◌<◌, ◌≤◌, true, false, eqb, List, [], ◌∷◌, ◌++◌, length, map, get_or, drop, refl, ap, ◌∙◌, sym, subst, arith, append-nil, append_assoc, ext_get_or, get_or-set_same, get_or-set_other}
use Rattle.std.proofs.Math.ListN.{set}
use Rattle.std.proofs.lemmas.Bool.Decides.{nat_tests}
use Rattle.deciding.proofs.HoldsFollow.{at_set}
use Rattle.std.proofs.lemmas.List.{drop_all, drop_more, get_or-replicate}
use Rattle.history_text.specs.Below.{MOST_SEATS, Sleeper, LinePlace, Header, Object, Base, based, nothing, opening_base, seat_of, sleepers_of, total, SleepsWell, StandsWell, IsInRange, calls}
use Rattle.history.proofs.Times.{one_if}
use Rattle.history_text.specs.Prelude.{BaseLine, Seat, Stands, Sleeps, AllRead, with_lines, after_told, Follow, base_by, sums_of, base_lines, first_line, seat_lines, sleeper_lines, AllSeated, IsFree, MayFollow, BaseSums, with_sums, no_sums, with_line}
use Rattle.history_text.specs.inner.BaseFollowing.{IsCountedFor}
use Rattle.history_text.proofs.BaseTold.{SoFar, all_told, begun, goes_on, no_sleepers, on_condition, sleeps_more, stands_more, waits_of}
use Rattle.history_text.proofs.BaseWhole.{base-append, follow-append, told-append}

-- what holds behind one part and another holds behind both
moved : (P : BaseSums → Base → Type 0) (t : BaseSums) (b : Base) (xs ys : List BaseLine) →
    P (after_told (after_told t xs) ys) (with_lines (with_lines b xs) ys) →
    P (after_told t (xs ++ ys)) (with_lines b (xs ++ ys))
moved P t b xs ys p =
    subst (λ a. P (after_told t (xs ++ ys)) a) (sym (base-append b xs ys))
    (subst (λ a. P a (with_lines (with_lines b xs) ys)) (sym (told-append t xs ys)) p)

-- lines follow, and this holds behind them
abbrev Goes : (BaseSums → Base → Type 0) → BaseSums → Base → List BaseLine → Type 0
Goes P t b xs = AllRead b t xs × P (after_told t xs) (with_lines b xs)

-- one part behind another
goes-append : (P Q : BaseSums → Base → Type 0) (t : BaseSums) (b : Base) (xs ys : List BaseLine) →
    Goes P t b xs → Goes Q (after_told t xs) (with_lines b xs) ys → Goes Q t b (xs ++ ys)
goes-append P Q t b xs ys p q = (follow-append t b xs ys p.0 q.0, moved Q t b xs ys q.1)

-- the base so far is this one's part
pub record Agrees (g : Base) (t : BaseSums) (b : Base) : Type 0 where
  pub header : b.header ≡ g.header
  pub entries : b.entries ≡ g.entries
  pub unheld : b.unheld ≡ g.unheld
  pub count : b.count ≡ g.count
  pub free : (i : ℕ) → i < MOST_SEATS → waits_of b i ≡ 0 → get_or t.waits i false ≡ false

pub record AtSeats (g : Base) (n : ℕ) (t : BaseSums) (b : Base) : Type 0 where
  pub agrees : Agrees g t b
  pub begun : 1 ≤ t.entries
  pub seats : t.seats ≡ n
  pub same : (i : ℕ) → i < n → seat_of b i ≡ seat_of g i
  pub line : b.line ≡ []
  pub sleepers : (c : ℕ) → sleepers_of b c ≡ []
  pub asleep : t.asleep ≡ false
  pub condition : t.condition ≡ 0

pub record AtLine (g : Base) (front : List LinePlace) (t : BaseSums) (b : Base) : Type 0 where
  pub agrees : Agrees g t b
  pub all : AllSeated b.header t
  pub seats : b.seats ≡ g.seats
  pub line : b.line ≡ front
  pub sleepers : (c : ℕ) → sleepers_of b c ≡ []
  pub asleep : t.asleep ≡ false
  pub condition : t.condition ≡ 0

pub record AtSleepers (g : Base) (c : ℕ) (front : List Sleeper) (t : BaseSums) (b : Base) : Type 0 where
  pub agrees : Agrees g t b
  pub all : AllSeated b.header t
  pub seats : b.seats ≡ g.seats
  pub line : b.line ≡ g.line
  pub before : (d : ℕ) → d < c → sleepers_of b d ≡ sleepers_of g d
  pub here : sleepers_of b c ≡ front
  pub behind : (d : ℕ) → c < d → sleepers_of b d ≡ []
  pub condition : t.condition ≤ c

-- the lines of a base tell it
pub record IsTold (g : Base) : Type 0 where
  pub follow : Follow g.header (base_lines g)
  pub all : AllSeated g.header (sums_of (base_lines g))
  pub same : base_by g.header (base_lines g) ≡ g
  pub calls : (sums_of (base_lines g)).calls ≡ calls (based g) []

module _ (g : Base) (range : IsInRange g.header) (long : length g.seats ≡ g.header.seats)
    (many : length g.sleepers ≡ g.header.conditions) (counted : IsCountedFor g.header.object g) where
  -- a seat more
  after_seat : (n : ℕ) (done : List BaseLine) (t : BaseSums) (b : Base) → SoFar done t b → AtSeats g n t b →
      n < g.header.seats →
      AtSeats g (n + 1) (with_sums t (Seat n (seat_of g n))) (with_line b (Seat n (seat_of g n)))
  after_seat n done t b so at l =
      let within : n < length b.seats =
      omega (arith, so.summed.length, ap (λ (h : Header). h.seats) at.agrees.header, l) in
      let seats : t.seats + 1 ≡ n + 1 = omega (arith, at.seats) in
      let same : (i : ℕ) → i < n + 1 → get_or (set b.seats n (seat_of g n)) i nothing ≡ seat_of g i =
      λ i m. grind (arith, nat_tests, at_set b.seats n i (seat_of g n) nothing within, at.same i) in
      let agrees : Agrees g (with_sums t (Seat n (seat_of g n))) (with_line b (Seat n (seat_of g n))) =
      assumption at.agrees in
      assumption

  -- one more is marked
  free_more : (t : BaseSums) (b : Base) (s : ℕ) (after : ℕ → ℕ) → Agrees g t b →
      ((i : ℕ) → after i ≡ waits_of b i + one_if (eqb s i)) → (i : ℕ) → i < MOST_SEATS → after i ≡ 0 →
      get_or (set t.waits s true) i false ≡ false
  free_more t b s after agrees more i l z =
      grind (arith, nat_tests, more i, get_or-set_other t.waits s i true false, agrees.free i l)

  -- one more in line
  after_stands : (p : LinePlace) (front : List LinePlace) (done : List BaseLine) (t : BaseSums) (b : Base) →
      SoFar done t b → AtLine g front t b → IsFree t p.who.seat → StandsWell b p →
      AtLine g (front ++ p ∷ []) (with_sums t (Stands p)) (with_line b (Stands p))
  after_stands p front done t b so at is_free well =
      let free = free_more t b p.who.seat (waits_of (record b { line = b.line ++ p ∷ [] })) at.agrees
      (stands_more done t b so p at.all at.asleep is_free well) in
      let line : b.line ++ p ∷ [] ≡ front ++ p ∷ [] = ap (λ l. l ++ p ∷ []) at.line in
      let agrees : Agrees g (with_sums t (Stands p)) (with_line b (Stands p)) =
      assumption (free, at.agrees) in
      let all : AllSeated b.header (with_sums t (Stands p)) = assumption at.all in
      assumption

  -- one more asleep
  after_sleeps : (c : ℕ) (x : Sleeper) (front : List Sleeper) (done : List BaseLine) (t : BaseSums)
      (b : Base) → SoFar done t b → AtSleepers g c front t b → IsFree t x.seat → SleepsWell b c x →
      AtSleepers g c (front ++ x ∷ []) (with_sums t (Sleeps c x)) (with_line b (Sleeps c x))
  after_sleeps c x front done t b so at is_free well =
      record {
        agrees = let free = free_more t b x.seat
            (waits_of (record b { sleepers = set b.sleepers c (sleepers_of b c ++ x ∷ []) })) at.agrees
            (sleeps_more done t b so c x at.all at.condition is_free well) in
            assumption (free, at.agrees);
        all = assumption at.all;
        seats = at.seats;
        line = at.line;
        before = λ d l. get_or-set_other b.sleepers c d (sleepers_of b c ++ x ∷ []) [] (omega (arith, l))
            ∙ at.before d l;
        here = get_or-set_same b.sleepers c (sleepers_of b c ++ x ∷ []) []
            (on_condition done t b so c x at.all at.condition is_free well)
            ∙ ap (λ l. l ++ x ∷ []) at.here;
        behind = λ d l. get_or-set_other b.sleepers c d (sleepers_of b c ++ x ∷ []) [] (omega (arith, l))
            ∙ at.behind d l;
        condition = omega arith;
      }

  -- the next condition
  next_list : (c : ℕ) (t : BaseSums) (b : Base) → AtSleepers g c (sleepers_of g c) t b →
      AtSleepers g (c + 1) [] t b
  next_list c t b at =
      record {
        agrees = at.agrees;
        all = at.all;
        seats = at.seats;
        line = at.line;
        before = λ d l. grind (arith, at.before d, at.here);
        here = at.behind (c + 1) (omega arith);
        behind = λ d l. at.behind d (omega (arith, l));
        condition = omega (arith, at.condition);
      }

  -- the first line
  at_first : (n u v q : ℕ) → 1 ≤ n → n ≡ g.entries → v ≡ g.unheld → q ≡ g.count →
      AtSeats g 0 (record no_sums { entries = n; unheld = u })
      (record (opening_base g.header) { entries = n; unheld = v; count = q })
  at_first n u v q some e d c =
      record {
        agrees = record {
          header = refl;
          entries = e;
          unheld = d;
          count = c;
          free = λ i l z. get_or-replicate MOST_SEATS i false false l;
        };
        begun = some;
        seats = refl;
        same = λ i l. absurd (omega (arith, l));
        line = refl;
        sleepers = no_sleepers g.header;
        asleep = refl;
        condition = refl;
      }

  after_first : 1 ≤ g.entries → (o : Object) → g.header.object ≡ o → IsCountedFor o g →
      AtSeats g 0 (with_sums no_sums (first_line o g)) (with_line (opening_base g.header) (first_line o g))
  after_first some o q v =
      let first = λ (u : ℕ). at_first g.entries u g.unheld g.count some in
      grind (arith, first g.unheld, first 0)

  -- from part to part
  line_next : (done : List BaseLine) (t : BaseSums) (b : Base) → SoFar done t b →
      AtSeats g g.header.seats t b → AtLine g [] t b
  line_next done t b so at =
      let same = ap (λ (h : Header). h.seats) at.agrees.header in
      let all : AllSeated b.header t = record { begun = at.begun; seats = at.seats ∙ sym same } in
      let seats = ext_get_or nothing b.seats g.seats (so.summed.length ∙ same ∙ sym long)
      (λ i l. at.same i (omega (arith, so.summed.length, same, l))) in
      assumption (all, seats, at)

  sleepers_next : (t : BaseSums) (b : Base) → AtLine g g.line t b → AtSleepers g 0 [] t b
  sleepers_next t b at =
      record {
        agrees = at.agrees;
        all = at.all;
        seats = at.seats;
        line = at.line;
        before = λ d l. absurd (omega (arith, l));
        here = at.sleepers 0;
        behind = λ d l. at.sleepers d;
        condition = omega (arith, at.condition);
      }

  -- what was told is this base
  told_same : (done : List BaseLine) (t : BaseSums) (b : Base) → SoFar done t b →
      AtSleepers g g.header.conditions [] t b → b ≡ g
  told_same done t b so at =
      λ j. record {
        header = at.agrees.header j;
        entries = at.agrees.entries j;
        seats = at.seats j;
        unheld = at.agrees.unheld j;
        count = at.agrees.count j;
        line = at.line j;
        sleepers = sleepers j;
      }
    where
      so_many : length b.sleepers ≡ g.header.conditions
      so_many = so.waited.conditions ∙ ap (λ (h : Header). h.conditions) at.agrees.header

      sleepers : b.sleepers ≡ g.sleepers
      sleepers =
          ext_get_or [] b.sleepers g.sleepers (so_many ∙ sym many)
          (λ d l. at.before d (omega (arith, so_many, l)))

  -- All lines go so where each may follow, by what is known of it and of those behind it.
  module _ (Known : BaseSums → List BaseLine → Type 0)
      (first : (xs : List BaseLine) → Known no_sums (first_line g.header.object g ∷ xs) →
      (1 ≤ g.entries) × MayFollow no_sums (opening_base g.header) (first_line g.header.object g)
      × Known (with_sums no_sums (first_line g.header.object g)) xs)
      (seat : (n : ℕ) (done : List BaseLine) (t : BaseSums) (b : Base) → SoFar done t b → AtSeats g n t b →
      n < g.header.seats → (xs : List BaseLine) → Known t (Seat n (seat_of g n) ∷ xs) →
      MayFollow t b (Seat n (seat_of g n)) × Known (with_sums t (Seat n (seat_of g n))) xs)
      (stand : (p : LinePlace) (front rest : List LinePlace) (done : List BaseLine) (t : BaseSums)
      (b : Base) → SoFar done t b → AtLine g front t b → front ++ p ∷ rest ≡ g.line → (xs : List BaseLine) →
      Known t (Stands p ∷ xs) → MayFollow t b (Stands p) × Known (with_sums t (Stands p)) xs)
      (sleep : (c : ℕ) (x : Sleeper) (front rest : List Sleeper) (done : List BaseLine) (t : BaseSums)
      (b : Base) → SoFar done t b → AtSleepers g c front t b → front ++ x ∷ rest ≡ sleepers_of g c →
      (xs : List BaseLine) → Known t (Sleeps c x ∷ xs) →
      MayFollow t b (Sleeps c x) × Known (with_sums t (Sleeps c x)) xs) where
    -- a place with what is known of the lines behind it
    abbrev With : (BaseSums → Base → Type 0) → List BaseLine → BaseSums → Base → Type 0
    With P xs t b = P t b × Known t xs

    seats_go : (m n : ℕ) (done : List BaseLine) (t : BaseSums) (b : Base) (xs : List BaseLine) →
        SoFar done t b → AtSeats g n t b → n + m ≡ g.header.seats →
        Known t (seat_lines n (drop n g.seats) ++ xs) →
        Goes (With (AtSeats g g.header.seats) xs) t b (seat_lines n (drop n g.seats))
    seats_go zero n done t b xs so at e known =
        let q : n ≡ g.header.seats = omega (arith, e) in
        let none : drop n g.seats ≡ [] = drop_all n g.seats (omega (arith, q, long)) in
        subst (λ l. Goes (With (AtSeats g g.header.seats) xs) t b (seat_lines n l)) (sym none)
        (tt, (subst (λ n. AtSeats g n t b) q at, subst (λ l. Known t (seat_lines n l ++ xs)) none known))
    seats_go (suc m) n done t b xs so at e known =
        let l : n < g.header.seats = omega (arith, e) in
        let x = Seat n (seat_of g n) in
        let more : drop n g.seats ≡ seat_of g n ∷ drop (n + 1) g.seats =
        drop_more g.seats n nothing (omega (arith, l, long)) in
        let may = seat n done t b so at l (seat_lines (n + 1) (drop (n + 1) g.seats) ++ xs)
        (subst (λ l. Known t (seat_lines n l ++ xs)) more known) in
        let rest = seats_go m (n + 1) _ _ _ xs (goes_on done t b x so may.0) (after_seat n done t b so at l)
        (omega (arith, e)) may.1 in
        subst (λ l. Goes (With (AtSeats g g.header.seats) xs) t b (seat_lines n l)) (sym more)
        ((may.0, rest.0), rest.1)

    line_goes : (rest front : List LinePlace) (done : List BaseLine) (t : BaseSums) (b : Base)
        (xs : List BaseLine) → SoFar done t b → AtLine g front t b → front ++ rest ≡ g.line →
        Known t (map Stands rest ++ xs) → Goes (With (AtLine g g.line) xs) t b (map Stands rest)
    line_goes [] front done t b xs so at e known =
        (tt, (subst (λ l. AtLine g l t b) (sym (append-nil front) ∙ e) at, known))
    line_goes (p ∷ rest) front done t b xs so at e known =
        let may = stand p front rest done t b so at e (map Stands rest ++ xs) known in
        let go = line_goes rest (front ++ p ∷ []) _ _ _ xs (goes_on done t b (Stands p) so may.0)
        (after_stands p front done t b so at may.0.2 may.0.3) (append_assoc front (p ∷ []) rest ∙ e) may.1 in
        ((may.0, go.0), go.1)

    list_goes : (c : ℕ) (rest front : List Sleeper) (done : List BaseLine) (t : BaseSums) (b : Base)
        (xs : List BaseLine) → SoFar done t b → AtSleepers g c front t b → front ++ rest ≡ sleepers_of g c →
        Known t (map (Sleeps c) rest ++ xs) →
        Goes (With (AtSleepers g c (sleepers_of g c)) xs) t b (map (Sleeps c) rest)
    list_goes c [] front done t b xs so at e known =
        (tt, (subst (λ l. AtSleepers g c l t b) (sym (append-nil front) ∙ e) at, known))
    list_goes c (x ∷ rest) front done t b xs so at e known =
        let may = sleep c x front rest done t b so at e (map (Sleeps c) rest ++ xs) known in
        let go = list_goes c rest (front ++ x ∷ []) _ _ _ xs (goes_on done t b (Sleeps c x) so may.0)
        (after_sleeps c x front done t b so at may.0.2 may.0.3) (append_assoc front (x ∷ []) rest ∙ e) may.1 in
        ((may.0, go.0), go.1)

    lists_go : (m c : ℕ) (done : List BaseLine) (t : BaseSums) (b : Base) → SoFar done t b →
        AtSleepers g c [] t b → c + m ≡ g.header.conditions →
        Known t (sleeper_lines c (drop c g.sleepers)) →
        Goes (AtSleepers g g.header.conditions []) t b (sleeper_lines c (drop c g.sleepers))
    lists_go zero c done t b so at e known =
        let q : c ≡ g.header.conditions = omega (arith, e) in
        subst (λ l. Goes (AtSleepers g g.header.conditions []) t b (sleeper_lines c l))
        (sym (drop_all c g.sleepers (omega (arith, q, many))))
        (tt, subst (λ n. AtSleepers g n [] t b) q at)
    lists_go (suc m) c done t b so at e known =
        let l : c < g.header.conditions = omega (arith, e) in
        let more : drop c g.sleepers ≡ sleepers_of g c ∷ drop (c + 1) g.sleepers =
        drop_more g.sleepers c [] (omega (arith, l, many)) in
        let xs = map (Sleeps c) (sleepers_of g c) in
        let ys = sleeper_lines (c + 1) (drop (c + 1) g.sleepers) in
        let here = list_goes c (sleepers_of g c) [] done t b ys so at refl
        (subst (λ l. Known t (sleeper_lines c l)) more known) in
        let rest = lists_go m (c + 1) _ _ _ (all_told done xs t b so here.0) (next_list c _ _ here.1.0)
        (omega (arith, e)) here.1.1 in
        subst (λ l. Goes (AtSleepers g g.header.conditions []) t b (sleeper_lines c l)) (sym more)
        (goes-append (With (AtSleepers g c (sleepers_of g c)) ys) (AtSleepers g g.header.conditions []) t b xs
        ys here rest)

    -- behind the seats
    wait_goes : (done : List BaseLine) (t : BaseSums) (b : Base) → SoFar done t b →
        AtSeats g g.header.seats t b → Known t (map Stands g.line ++ sleeper_lines 0 g.sleepers) →
        Goes (AtSleepers g g.header.conditions []) t b (map Stands g.line ++ sleeper_lines 0 g.sleepers)
    wait_goes done t b so at known =
        let xs = map Stands g.line in
        let ys = sleeper_lines 0 g.sleepers in
        let go = line_goes g.line [] done t b ys so (line_next done t b so at) refl known in
        goes-append (With (AtLine g g.line) ys) (AtSleepers g g.header.conditions []) t b xs ys go
        (lists_go g.header.conditions 0 _ _ _ (all_told done xs t b so go.0) (sleepers_next _ _ go.1.0)
        (omega arith) go.1.1)

    -- behind the first line
    rest_goes : (done : List BaseLine) (t : BaseSums) (b : Base) → SoFar done t b → AtSeats g 0 t b →
        Known t (seat_lines 0 g.seats ++ (map Stands g.line ++ sleeper_lines 0 g.sleepers)) →
        Goes (AtSleepers g g.header.conditions []) t b
        (seat_lines 0 g.seats ++ (map Stands g.line ++ sleeper_lines 0 g.sleepers))
    rest_goes done t b so at known =
        let xs = seat_lines 0 g.seats in
        let ys = map Stands g.line ++ sleeper_lines 0 g.sleepers in
        let go = seats_go g.header.seats 0 done t b ys so at (omega arith) known in
        goes-append (With (AtSeats g g.header.seats) ys) (AtSleepers g g.header.conditions []) t b xs ys go
        (wait_goes _ _ _ (all_told done xs t b so go.0) go.1.0 go.1.1)

    all_go : Known no_sums (base_lines g) →
        Goes (AtSleepers g g.header.conditions []) no_sums (opening_base g.header) (base_lines g)
    all_go known =
        let x = first_line g.header.object g in
        let k = opening_base g.header in
        let may = first _ known in
        let rest = rest_goes _ _ _ (all_told [] (x ∷ []) no_sums k (begun g.header range) (may.1, tt))
        (after_first may.0 g.header.object refl counted) may.2 in
        ((may.1, rest.0), rest.1)

    -- so all lines tell this base
    pub base_told : Known no_sums (base_lines g) → IsTold g
    base_told known =
        record {
          follow = go.0;
          all = subst (λ h. AllSeated h (sums_of (base_lines g))) go.1.agrees.header go.1.all;
          same = same;
          calls = sym so.summed.calls
              ∙ ap (λ (a : Base). total a.header.seats (λ i. (seat_of a i).calls)) same;
        }
      where
        go : Goes (AtSleepers g g.header.conditions []) no_sums (opening_base g.header) (base_lines g)
        go = all_go known

        so : SoFar (base_lines g) (sums_of (base_lines g)) (base_by g.header (base_lines g))
        so = all_told [] (base_lines g) no_sums (opening_base g.header) (begun g.header range) go.0

        same : base_by g.header (base_lines g) ≡ g
        same = told_same (base_lines g) (sums_of (base_lines g)) (base_by g.header (base_lines g)) so go.1
