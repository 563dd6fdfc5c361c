-- The fields of a core, written as a base, are the fold of its entries.
use Rattle.std.proofs.Common.{◌≡◌, ⊎_elim, ℕ, ◌+◌, ◌<◌, ◌≤◌, Bool, true, false, ◌||◌, cond, eqb, List, [], ◌∷◌, ◌++◌, length, map, take, get_or, set, Some, None, refl, ap, ◌∙◌, sym, subst, arith, pos, ◌+ℤ◌, slice_get, eq-eqb, ne_eqb, ext_get_or, get_or-set_other, get_or-set_same}
use Rattle.std.specs.List.{AllByRecursion}
use Rattle.std.proofs.lemmas.Bool.{cases_eq, or_right}
use Rattle.std.proofs.lemmas.List.{get_or-map, length-map, map-append, map-set, take_more}
use Rattle.std.proofs.lemmas.Option.{get_or_from_slice_get, slice_get_within}
use Rattle.frame.specs.Below.{Line, plain_place, Sleepers, asleep_on, Balance, balance, sleep_of, Arrival, LinePlace, SeatBase, Sleeper, Entry, Object, Lock, ReadWrite, Semaphore, Latch, Base, based, each_below, folded, nothing, seat_after, sleeper_after, standing_after, stands_from, free, unheld, MayFold, line, place_of, created, is_semaphore, is_away, phase, phase_by, has, last_sleep, sleepers, sleeps_below, awake, StandOnce}
use Rattle.history.specs.Start.{Sleep}
use Rattle.history.proofs.Folding.{based_conserved, each_agree, get_or-each, length-each}
use Rattle.history.proofs.GoodBases.{good_waits}
use Rattle.history.proofs.GoodFolds.{line_seated_on}
use Rattle.history.proofs.OneWait.{Waits, waits_from}
use Rattle.history.proofs.Permits.{conserved_from, unheld_none}
use Rattle.history.proofs.SleepLemmas.{sleeps_there}
use Rattle.history.proofs.WhoWaits.{asleep_out_of_line, few_wait, stand_once}
use Rattle.frame.specs.Prelude.{Seat, AreCalled, IsSeat, no_holds}
use Rattle.frame.specs.inner.Snapshot.{IsKept, IsUnheldBy, in_base, sleeper_in, with_sleep}

-- what holds of each element
each_of : {A : Type 0} (P Q : A → Type 0) (xs : List A) → ((x : A) → P x → Q x) → AllByRecursion P xs →
    AllByRecursion Q xs
each_of P Q [] f all = tt
each_of P Q (x ∷ xs) f all = (f x all.0, each_of P Q xs f all.1)

each_both : {A : Type 0} (P Q : A → Type 0) (xs : List A) → AllByRecursion P xs → AllByRecursion Q xs →
    AllByRecursion (λ x. P x × Q x) xs
each_both P Q [] all also = tt
each_both P Q (x ∷ xs) all also = ((all.0, also.0), each_both P Q xs all.1 also.1)

-- who stands once in a queue is found there
behind : (a x : Arrival) (q : List Arrival) → place_of a.seat q ≡ None → place_of x.seat q ≡ Some x →
    place_of x.seat (a ∷ q) ≡ Some x
behind a x q none at = ⊎_elim same other (cases_eq a.seat x.seat)
  where
    same : a.seat ≡ x.seat → place_of x.seat (a ∷ q) ≡ Some x
    same is = let gone : place_of x.seat q ≡ None = ap (λ i. place_of i q) (sym is) ∙ none in cc (gone, at)

    other : (a.seat ≡ x.seat → ⊥) → place_of x.seat (a ∷ q) ≡ Some x
    other ne = rw (ne_eqb a.seat x.seat ne) at

each_placed : (q : List Arrival) → StandOnce q → AllByRecursion (λ a. place_of a.seat q ≡ Some a) q
each_placed [] once = tt
each_placed (a ∷ q) once = (
  rw (eq-eqb a.seat a.seat refl) refl,
  each_of (λ x. place_of x.seat q ≡ Some x) (λ x. place_of x.seat (a ∷ q) ≡ Some x) q
      (λ x at. behind a x q once.0 at) (each_placed q once.1),
)

module _ (b : Base) (h : List Entry) (table : List Seat) (may : MayFold b h)
    (tabled : (i : ℕ) → i < b.header.seats → IsSeat (based b) h i (get_or table i no_holds)) where
  waits : Waits (based b) h
  waits = waits_from (based b) h (good_waits b may.can.good) may.can.legal

  -- the queue
  standing_is : (a : Arrival) → (a.seat < b.header.seats) × (place_of a.seat (line (based b) h) ≡ Some a) →
      with_sleep table (plain_place a) ≡ standing_after b h a
  standing_is a known = by a.back slept
    where
      away : a.back ≡ true → is_away (phase (based b) h a.seat) ≡ true
      away t =
          ap (λ o. is_away (phase_by o (sleeps_below b.header.conditions (based b) h a.seat))) known.1 ∙ t

      slept : a.back ≡ true →
          sleep_of (get_or table a.seat no_holds).sleep ≡ last_sleep (based b) h a.seat
      slept t = (tabled a.seat known.0).sleep (away t)

      by : (r : Bool) →
          (r ≡ true → sleep_of (get_or table a.seat no_holds).sleep ≡ last_sleep (based b) h a.seat) →
          cond r (stands_from a (sleep_of (get_or table a.seat no_holds).sleep)) (plain_place a)
          ≡ stands_from a (cond r (last_sleep (based b) h a.seat) awake)
      by true is = ap (stands_from a) (is refl)
      by false is = refl

  all_standing : (q : List Arrival) →
      AllByRecursion (λ a. (a.seat < b.header.seats) × (place_of a.seat (line (based b) h) ≡ Some a)) q →
      map (with_sleep table) (map plain_place q) ≡ map (standing_after b h) q
  all_standing [] all = refl
  all_standing (a ∷ q) all = λ j. standing_is a all.0 j ∷ all_standing q all.1 j

  pub line_is : (arrivals : List Arrival) → arrivals ≡ line (based b) h →
      map (with_sleep table) (map plain_place arrivals) ≡ map (standing_after b h) (line (based b) h)
  line_is arrivals is =
      ap (λ q. map (with_sleep table) (map plain_place q)) is
      ∙ all_standing (line (based b) h)
      (each_both (λ (a : Arrival). a.seat < b.header.seats)
      (λ (a : Arrival). place_of a.seat (line (based b) h) ≡ Some a) (line (based b) h)
      (line_seated_on b may.can.good h may.can.legal may.can.seated)
      (each_placed (line (based b) h) (stand_once (based b) h waits.once)))

  pub line_fits : (arrivals : List Arrival) → arrivals ≡ line (based b) h → length arrivals ≤ b.header.seats
  line_fits arrivals is =
      let few = few_wait (based b) h waits
      (line_seated_on b may.can.good h may.can.legal may.can.seated) in
      let same = ap length is in
      omega (arith, few, same)

  -- the conditions' waiters
  pub waiter_seat : (waiters : Sleepers) → ((c : ℕ) → asleep_on waiters c ≡ sleepers (based b) h c) →
      (c i : ℕ) → has i (asleep_on waiters c) ≡ true → i < b.header.seats
  waiter_seat waiters are c i t = (waits.sleepers c i (ap (has i) (sym (are c)) ∙ t)).saved.seat

  sleeper_is : (c i : ℕ) → c < b.header.conditions → has i (sleepers (based b) h c) ≡ true →
      sleeper_in table i ≡ sleeper_after b h i
  sleeper_is c i low t =
      λ j. record { seat = i; holds = ap (λ (w : Sleep). w.holds) ((tabled i seat).sleep away) j }
    where
      seat : i < b.header.seats
      seat = (waits.sleepers c i t).saved.seat

      asleep : sleeps_below b.header.conditions (based b) h i ≡ true
      asleep = sleeps_there b.header.conditions (based b) h i c low t

      away : is_away (phase (based b) h i) ≡ true
      away =
          ap (λ o. is_away (phase_by o (sleeps_below b.header.conditions (based b) h i)))
          (asleep_out_of_line (based b) h i waits.once asleep)
          ∙ ap (λ x. is_away (phase_by None x)) asleep

  all_asleep : (c : ℕ) → c < b.header.conditions → (xs : List ℕ) →
      ((i : ℕ) → has i xs ≡ true → has i (sleepers (based b) h c) ≡ true) →
      map (sleeper_in table) xs ≡ map (sleeper_after b h) xs
  all_asleep c low [] all = refl
  all_asleep c low (x ∷ xs) all =
      λ j. sleeper_is c x low (all x (ap (λ t. t || has x xs) (eq-eqb x x refl))) j
      ∷ all_asleep c low xs (λ i t. all i (or_right (eqb x i) (has i xs) t)) j

  pub sleepers_are : (waiters : Sleepers) → ((c : ℕ) → asleep_on waiters c ≡ sleepers (based b) h c) →
      each_below b.header.conditions (λ c. map (sleeper_in table) (asleep_on waiters c))
      ≡ each_below b.header.conditions (λ c. map (sleeper_after b h) (sleepers (based b) h c))
  sleepers_are waiters are =
      each_agree b.header.conditions (λ c. map (sleeper_in table) (asleep_on waiters c))
      (λ c. map (sleeper_after b h) (sleepers (based b) h c))
      (λ c low. ap (map (sleeper_in table)) (are c)
      ∙ all_asleep c low (sleepers (based b) h c) (λ i t. t))

  -- the seats
  pub seats_are : length table ≡ b.header.seats → AreCalled b.header.seats b h table →
      map in_base table ≡ each_below b.header.seats (seat_after b h)
  seats_are sized called =
      ext_get_or nothing (map in_base table) (each_below b.header.seats (seat_after b h))
      (length-map table in_base ∙ sized ∙ sym (length-each b.header.seats (seat_after b h)))
      (λ i l.
      let n = length-map table in_base in
      let m : i < b.header.seats = omega (arith, l, n, sized) in
      get_or-map in_base table i no_holds nothing (omega (arith, m, sized)) ∙ here i m
      ∙ sym (get_or-each b.header.seats (seat_after b h) i nothing m))
    where
      here : (i : ℕ) → i < b.header.seats → in_base (get_or table i no_holds) ≡ seat_after b h i
      here i m =
          let is = tabled i m in
          let counted = called i m in
          λ j. record { calls = counted j; exclusive = is.exclusive j; shared = is.shared j }

-- the permits released unheld
pub unheld_is : (b : Base) (h : List Entry) (totals : Balance) → MayFold b h → totals ≡ balance (based b) h →
    IsUnheldBy b.header.object b.unheld totals (unheld (based b) h)
unheld_is b h totals may is = by b.header.object refl
  where
    shared : totals.shared ≡ (balance (based b) h).shared
    shared = ap (λ (x : Balance). x.shared) is

    available : is_semaphore b.header.object ≡ true → totals.available ≡ free (based b) h
    available t =
        ap (λ (x : Balance). x.available) is ∙ ap (λ s. cond s (free (based b) h) (pos 0)) t

    by : (o : Object) → b.header.object ≡ o → IsUnheldBy o b.unheld totals (unheld (based b) h)
    by (Semaphore p c) q =
        let t = ap is_semaphore q in
        (λ j. pos (shared j) +ℤ available t j)
        ∙ conserved_from (based b) h t (good_waits b may.can.good) (based_conserved b) may.can.legal
        may.can.seated
        ∙ ap (λ o. created o +ℤ pos (unheld (based b) h)) q
    by (Lock p) q = unheld_none (based b) h (ap is_semaphore q)
    by (ReadWrite p) q = unheld_none (based b) h (ap is_semaphore q)
    by (Latch c) q = unheld_none (based b) h (ap is_semaphore q)

-- how many were released unheld is known
pub unheld_known : {b : Base} {h : List Entry} {count : ℕ} {totals : Balance} {queue : Line}
    {waiters : Sleepers} {table : List Seat} → IsKept b h count totals queue waiters table →
    (n : ℕ) × IsUnheldBy b.header.object b.unheld totals n
unheld_known {b = b} {h = h} {totals = totals} kept =
    (unheld (based b) h, unheld_is b h totals kept.may_fold kept.totalled)

-- lists that are written one after another
pub written_more : {A B : Type 0} (f : A → List B) (of : ℕ → List B) (xs : List A) (i : ℕ) (y : A) →
    i < length xs → f y ≡ of i → ((c : ℕ) → c < i → get_or (map f xs) c [] ≡ of c) → (c : ℕ) → c < i + 1 →
    get_or (map f (set xs i y)) c [] ≡ of c
written_more f of xs i y low new before c l =
    ap (λ ys. get_or ys c []) (map-set f xs i y) ∙ ⊎_elim here there (cases_eq i c)
  where
    here : i ≡ c → get_or (set (map f xs) i (f y)) c [] ≡ of c
    here same =
        subst (λ d. get_or (set (map f xs) i (f y)) d [] ≡ of d) same
        (get_or-set_same (map f xs) i (f y) [] (let n = length-map xs f in omega (arith, n, low)) ∙ new)

    there : (i ≡ c → ⊥) → get_or (set (map f xs) i (f y)) c [] ≡ of c
    there ne =
        get_or-set_other (map f xs) i c (f y) [] (λ q. ne (sym q)) ∙ before c (omega (arith, l, ne))

pub all_written : {A B : Type 0} (f : A → List B) (of : ℕ → List B) (xs : List A) (n : ℕ) → length xs ≡ n →
    ((c : ℕ) → c < n → get_or (map f xs) c [] ≡ of c) → map f xs ≡ each_below n of
all_written f of xs n sized all =
    ext_get_or [] (map f xs) (each_below n of) (length-map xs f ∙ sized ∙ sym (length-each n of))
    (λ c l.
    let m : c < n = (let k = length-map xs f in omega (arith, l, k, sized)) in
    all c m ∙ sym (get_or-each n of c [] m))

-- a waiter more
pub one_waiter : (f : ℕ → Sleeper) (xs : List ℕ) (k i : ℕ) (ys : List Sleeper) (y : Sleeper) →
    slice_get xs k ≡ Some i → ys ≡ map f (take k xs) → y ≡ f i → ys ++ y ∷ [] ≡ map f (take (k + 1) xs)
one_waiter f xs k i ys y at before is =
    let low = slice_get_within xs k i at in
    let same = get_or_from_slice_get xs k i i at in
    (λ j. before j ++ is j ∷ [])
    ∙ ap (λ x. map f (take k xs) ++ f x ∷ []) (sym same)
    ∙ sym (ap (map f) (take_more xs k i low) ∙ map-append f (take k xs) (get_or xs k i ∷ []))

-- the base
pub written : (b : Base) (h : List Entry) (count : ℕ) (totals : Balance) (queue : Line) (waiters : Sleepers)
    (table : List Seat) (added u : ℕ) (seats : List SeatBase) (places : List LinePlace)
    (lists : List (List Sleeper)) → IsKept b h count totals queue waiters table →
    added ≡ count → ((n : ℕ) → IsUnheldBy b.header.object b.unheld totals n → u ≡ n) → seats ≡ map in_base table →
    places ≡ map (with_sleep table) (map plain_place queue.arrivals) →
    lists ≡ each_below b.header.conditions (λ c. map (sleeper_in table) (asleep_on waiters c)) →
    folded b h
    ≡ record {
      header = b.header;
      entries = b.entries + added;
      seats = seats;
      unheld = u;
      count = totals.count;
      line = places;
      sleepers = lists;
    }
written b h count totals queue waiters table added u seats places lists kept many released seated standing asleep =
    let now = released (unheld (based b) h) (unheld_is b h totals kept.may_fold kept.totalled) in
    let left = ap (λ (x : Balance). x.count) kept.totalled in
    let in_seats = seated ∙ seats_are b h table kept.may_fold kept.tabled kept.seats kept.called in
    let in_line =
    standing ∙ line_is b h table kept.may_fold kept.tabled queue.arrivals kept.waiting.line in
    let on_conditions =
    asleep ∙ sleepers_are b h table kept.may_fold kept.tabled waiters kept.waiting.sleepers in
    let more = ap (λ n. b.entries + n) (many ∙ kept.counted) in
    λ j. record {
      header = b.header;
      entries = sym more j;
      seats = sym in_seats j;
      unheld = sym now j;
      count = sym left j;
      line = sym in_line j;
      sleepers = sym on_conditions j;
    }
