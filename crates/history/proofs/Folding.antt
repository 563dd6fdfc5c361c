-- A base and entries behind it, folded, says what they said.
use Rattle.std.proofs.Common.{◌≡◌, ⊎_elim, ℕ, zero, suc, ◌+◌, ◌-◌, ◌<◌, ◌≤◌, Bool, true, false, ◌&&◌, ◌||◌, cond, eqb, List, [], ◌∷◌, ◌++◌, map, length, get_or, replicate, Option, Some, None, refl, ap, ◌∙◌, sym, arith, ◌↔◌, ℤ, pos, ◌+ℤ◌, ◌-ℤ◌, eq-eqb, ne_eqb, length-append, ext_get_or}
use Rattle.std.specs.List.{AllByRecursion}
use Rattle.std.proofs.lemmas.Bool.{cases_eq, or_right}
use Rattle.std.proofs.lemmas.Bool.Decides.{nat_tests}
use Rattle.std.proofs.lemmas.Int.{ints}
use Rattle.std.proofs.lemmas.List.{length-replicate, get_or-replicate, get_or_append_left, get_or_at, get_or_past}
use Rattle.history.specs.Prelude.{Arrival, SeatBase, Sleeper, LinePlace, Entry, Mode, X, S, Object, Base, based, calls_of, each_below, either, folded, nothing, or_awake, seat_after, seat_of, sleep_below, sleep_in_line, sleep_on, sleeper_after, sleepers_of, standing_after, stands_from, IsConserved, permits_held, counted, free, held, total, unheld, ends_call, AreCounted, IsGood, StandsWell, AreSeated, IsLegal, calls, line, created, is_semaphore, opening_count, has, last_sleep, sleepers, Sleep, awake, seats_of, times}
use Rattle.history.specs.declared.entry.End.TheVariants as end
use Rattle.history.proofs.Alike.{Alike, ReturnAlike, alike_next, entry_alike}
use Rattle.history.proofs.Entering.{known}
use Rattle.history.proofs.GoodBases.{good_waits, sleep_of, slept_there, waits_once}
use Rattle.history.proofs.LineLemmas.{line_at_first}
use Rattle.history.proofs.OneOwner.{cases_below}
use Rattle.history.proofs.OneWait.{Sleeps, Waits, waits_from}
use Rattle.history.proofs.Permits.{conserved_from}
use Rattle.history.proofs.SleepLemmas.{held_other}
use Rattle.history.proofs.Sums.{total_change, total_agree}
use Rattle.history.proofs.Times.{once_same, total_part}
use Rattle.history.proofs.WhoWaits.{no_sleepers_above}

-- a list of a value for each number
pub length-each : {A : Type 0} (n : ℕ) (f : ℕ → A) → length (each_below n f) ≡ n
length-each zero f = refl
length-each (suc n) f = omega (arith, length-append (each_below n f) (f n ∷ []), length-each n f)

pub get_or-each : {A : Type 0} (n : ℕ) (f : ℕ → A) (i : ℕ) (d : A) → i < n → get_or (each_below n f) i d ≡ f i
get_or-each zero f i d l = absurd (omega arith)
get_or-each (suc n) f i d l =
    ⊎_elim
    (λ same. get_or_at (each_below n f) (f n) [] d i (length-each n f ∙ same) ∙ ap f same)
    (λ ne. let m : i < n = omega (arith, ne, l) in
    get_or_append_left (each_below n f) (f n ∷ []) d i (omega (arith, length-each n f, m))
    ∙ get_or-each n f i d m)
    (cases_eq n i)

list_again : {A : Type 0} (d : A) (xs : List A) (n : ℕ) (f : ℕ → A) → length xs ≡ n →
    ((i : ℕ) → i < n → f i ≡ get_or xs i d) → each_below n f ≡ xs
list_again d xs n f len same =
    ext_get_or d (each_below n f) xs (length-each n f ∙ sym len)
    (λ i l. let m : i < n = omega (arith, length-each n f, l) in get_or-each n f i d m ∙ same i m)

pub each_same : {A : Type 0} (n : ℕ) (d : A) → each_below n (λ i. d) ≡ replicate n d
each_same n d =
    list_again d (replicate n d) n (λ i. d) (length-replicate n d) (λ i l. sym (get_or-replicate n i d d l))

pub each_agree : {A : Type 0} (n : ℕ) (f g : ℕ → A) → ((i : ℕ) → i < n → f i ≡ g i) →
    each_below n f ≡ each_below n g
each_agree zero f g same = refl
each_agree (suc n) f g same =
    λ j. each_agree n f g (λ i l. same i (omega (arith, l))) j ++ same n (omega arith) j ∷ []

-- the seats in a list of arrivals, and of sleepers, that a fold writes
who_again : (b : Base) (g : List Entry) (q : List Arrival) → map (λ p. p.who) (map (standing_after b g) q) ≡ q
who_again b g [] = refl
who_again b g (a ∷ q) = ap (λ l. a ∷ l) (who_again b g q)

seats_again : (b : Base) (g : List Entry) (xs : List ℕ) → map (λ x. x.seat) (map (sleeper_after b g) xs) ≡ xs
seats_again b g [] = refl
seats_again b g (x ∷ xs) = ap (λ l. x ∷ l) (seats_again b g xs)

-- what a seat has of a fold
pub seat_folded : (b : Base) (g : List Entry) (i : ℕ) → i < b.header.seats →
    seat_of (folded b g) i ≡ seat_after b g i
seat_folded b g i l = get_or-each b.header.seats (seat_after b g) i nothing l

-- whoever is none of the seats holds nothing
pub none_beyond : (b : Base) (g : List Entry) → length b.seats ≡ b.header.seats → AreSeated (based b) g →
    (i : ℕ) →
    b.header.seats ≤ i → (m : Mode) → held (based b) g i m ≡ 0
none_beyond b [] seats s i l m =
    let past = get_or_past b.seats i nothing (omega (arith, seats, l)) in grind (arith, past)
none_beyond b (e ∷ g) seats s i l m =
    held_other (based b) e g i m (λ same. (let f = s.0 in omega (arith, f, l, same)))
    ∙ none_beyond b g seats s.1 i l m

holds_folded : (b : Base) (g : List Entry) → length b.seats ≡ b.header.seats → AreSeated (based b) g →
    (i : ℕ) (m : Mode) → held (based b) g i m ≡ held (based (folded b g)) [] i m
holds_folded b g seats s i m =
    ⊎_elim (λ l. let f = seat_folded b g i l in grind (arith, f))
    (λ l. let n = none_beyond b g seats s i l m in
    let p = get_or_past (each_below b.header.seats (seat_after b g)) i nothing
    (omega (arith, length-each b.header.seats (seat_after b g), l)) in grind (arith, n, p))
    (cases_below i b.header.seats)

-- the calls of all seats are the calls
pub calls_counted : (b : Base) (g : List Entry) → AreSeated (based b) g →
    total b.header.seats (calls_of b g) ≡ calls (based b) g
calls_counted b [] s = refl
calls_counted b (e ∷ g) s =
    let own : calls_of b (e ∷ g) e.seat ≡ calls_of b g e.seat + cond (ends_call e.word) 1 0 =
    rw (eq-eqb e.seat e.seat refl) refl in
    let more = total_change b.header.seats (calls_of b (e ∷ g)) (calls_of b g) e.seat s.0
    (λ i ne. rw (ne_eqb e.seat i (λ q. ne (sym q))) (omega arith)) in
    omega (arith, own, more, calls_counted b g s.1)

calls_folded : (b : Base) (g : List Entry) → AreSeated (based b) g →
    calls (based b) g ≡ calls (based (folded b g)) []
calls_folded b g s =
    sym (calls_counted b g s)
    ∙ total_agree b.header.seats (calls_of b g) (λ i. (seat_of (folded b g) i).calls)
    (λ i l. sym (ap (λ (x : SeatBase). x.calls) (seat_folded b g i l)))

-- the free permits are what isn't held
left_free : (t : ℕ) (u : ℕ) (f c : ℤ) → pos t +ℤ f ≡ c +ℤ pos u → f ≡ (c +ℤ pos u) -ℤ pos t
left_free t u f c p = omega (arith, ints)

free_at_first : (t u : ℕ) (c : ℤ) → pos t +ℤ ((c +ℤ pos u) -ℤ pos t) ≡ c +ℤ pos u
free_at_first t u c = omega (arith, ints)

pub based_conserved : (b : Base) → IsConserved (based b) []
based_conserved b =
    free_at_first (total b.header.seats (λ i. (seat_of b i).shared)) b.unheld (created b.header.object)

free_folded : (b : Base) (g : List Entry) → Waits (based b) [] → IsLegal (based b) g → AreSeated (based b) g →
    is_semaphore b.header.object ≡ true → free (based b) g ≡ free (based (folded b g)) []
free_folded b g v legal s t =
    left_free (permits_held (based b) g) (unheld (based b) g) (free (based b) g) (created b.header.object)
    (conserved_from (based b) g t v (based_conserved b) legal s)
    ∙ ap (λ n. (created b.header.object +ℤ pos (unheld (based b) g)) -ℤ pos n)
    (total_agree b.header.seats (λ i. held (based b) g i S) (λ i. (seat_of (folded b g) i).shared)
    (λ i l. sym (ap (λ (x : SeatBase). x.shared) (seat_folded b g i l))))

count_again : (n x : ℕ) → n - x ≡ n - (n - (n - x))
count_again n x = omega arith

-- who sleeps on a condition
sleepers_folded : (b : Base) (g : List Entry) → Waits (based b) g → (c : ℕ) →
    sleepers (based b) g c ≡ sleepers (based (folded b g)) [] c
sleepers_folded b g v c =
    let of = λ (c : ℕ). map (sleeper_after b g) (sleepers (based b) g c) in
    ⊎_elim
    (λ l. sym (ap (map (λ x. x.seat)) (get_or-each b.header.conditions of c [] l)
    ∙ seats_again b g (sleepers (based b) g c)))
    (λ l. no_sleepers_above (based b) g v c l
    ∙ sym (ap (map (λ x. x.seat)) (get_or_past (each_below b.header.conditions of) c []
    (omega (arith, length-each b.header.conditions of, l))))) (cases_below c b.header.conditions)

-- who comes back in a line
abbrev comes_at : ℕ → List Arrival → Bool
comes_at i [] = false
comes_at i (a ∷ q) = (a.back && eqb a.seat i) || comes_at i q

-- The sleep that a fold keeps of a seat is its last one.
module _ (b : Base) (g : List Entry) (i : ℕ) where
  line_found : (q : List Arrival) →
      sleep_in_line i (map (standing_after b g) q)
      ≡ cond (comes_at i q) (Some (last_sleep (based b) g i)) None
  line_found [] = refl
  line_found (a ∷ q) = grind (arith, nat_tests, line_found q)

  on_found : (c : ℕ) (xs : List ℕ) → ((j : ℕ) → has j xs ≡ true → Sleeps (based b) g c j) →
      sleep_on c i (map (sleeper_after b g) xs) ≡ cond (has i xs) (Some (last_sleep (based b) g i)) None
  on_found c [] well = refl
  on_found c (x ∷ xs) well =
      let ih = on_found c xs (λ j t. well j (or_right (eqb x j) (has j xs) t)) in
      let w = well x (ap (λ b. b || has x xs) (eq-eqb x x refl)) in
      grind (arith, nat_tests, ih, w.condition, w.how)

  below_found : Waits (based b) g → (n c : ℕ) → n ≤ b.header.conditions → c < n →
      has i (sleepers (based b) g c) ≡ true →
      sleep_below n (folded b g) i ≡ Some (last_sleep (based b) g i)
  below_found v zero c l m t = absurd (omega arith)
  below_found v (suc n) c l m t =
      let asleep = λ (c : ℕ). map (sleeper_after b g) (sleepers (based b) g c) in
      let found = get_or-each b.header.conditions asleep n [] l in
      let on : sleep_on n i (sleepers_of (folded b g) n)
      ≡ cond (has i (sleepers (based b) g n)) (Some (last_sleep (based b) g i)) None =
      ap (sleep_on n i) found ∙ on_found n (sleepers (based b) g n) (λ j u. v.sleepers n j u) in
      grind (arith, nat_tests, on, below_found v n c)

  -- the last sleep, where a fold finds the seat in its line or on its conditions
  slept : (r : Bool) → comes_at i (line (based b) g) ≡ r →
      (r ≡ false → sleep_below b.header.conditions (folded b g) i ≡ Some (last_sleep (based b) g i)) →
      last_sleep (based b) g i ≡ last_sleep (based (folded b g)) [] i
  slept r e below = grind (arith, e, below, line_found (line (based b) g))

  sleeper_found : Waits (based b) g → (c : ℕ) → has i (sleepers (based b) g c) ≡ true →
      last_sleep (based b) g i ≡ last_sleep (based (folded b g)) [] i
  sleeper_found v c t =
      let u = v.sleepers c i t in
      let below : c < b.header.conditions = omega (arith, u.saved.condition, u.condition) in
      slept (comes_at i (line (based b) g)) refl
      (λ _. below_found v b.header.conditions c (omega arith) below t)

each_returns : (b : Base) (g : List Entry) (q : List Arrival) →
    ((i : ℕ) → comes_at i q ≡ true → comes_at i (line (based b) g) ≡ true) →
    AllByRecursion (ReturnAlike b.header (based b) (based (folded b g)) g []) q
each_returns b g [] up = tt
each_returns b g (a ∷ q) up = (
  λ r. slept b g a.seat true (up a.seat (rw (r, eq-eqb a.seat a.seat refl) refl)) (λ f. absurd (cc)),
  each_returns b g q (λ i t. up i (or_right (a.back && eqb a.seat i) (comes_at i q) t)),
)

-- What a base says of legal entries is what their fold says.
pub fold_alike : (b : Base) (g : List Entry) → IsGood b → IsLegal (based b) g → AreSeated (based b) g →
    Alike b.header (based b) (based (folded b g)) g []
fold_alike b g good legal s =
    record {
      holds = λ j i m. holds_folded b g good.seats s i m j;
      released = refl;
      permits = free_folded b g (good_waits b good) legal s;
      left = count_again (opening_count b.header.object) (counted (based b) g);
      stand = sym (line_at_first (based (folded b g)) ∙ who_again b g (line (based b) g));
      asleep = λ j c. sleepers_folded b g waits c j;
      ended = calls_folded b g s;
      sleeping = λ c i t. sleeper_found b g i waits c t;
      returning = each_returns b g (line (based b) g) (λ i t. t);
    }
  where
    waits : Waits (based b) g
    waits = waits_from (based b) g (good_waits b good) legal

pub goes_on : (b : Base) (g h : List Entry) → IsGood b → AreSeated (based b) g → IsLegal (based b) (h ++ g) →
    Alike b.header (based b) (based (folded b g)) (h ++ g) h
goes_on b g [] good s legal = fold_alike b g good legal s
goes_on b g (e ∷ h) good s legal =
    alike_next b.header (based b) (based (folded b g)) (h ++ g) h (goes_on b g h good s legal.1) e
    (known (based b) (h ++ g) legal.0.0 e legal.0.1)

-- What is legal.
legal_parts : (b : Base) (g h : List Entry) → IsGood b → AreSeated (based b) g → IsLegal (based b) (h ++ g) →
    IsLegal (based b) g × IsLegal (based (folded b g)) h
legal_parts b g [] good s l = (l, tt)
legal_parts b g (e ∷ h) good s l =
    let rest = legal_parts b g h good s l.1 in
    let same = entry_alike b.header (based b) (based (folded b g)) (h ++ g) h (goes_on b g h good s l.1)
    e.seat
    l.0.0 in
    (rest.0, ((l.0.0, sym same ∙ l.0.1), rest.1))

legal_whole : (b : Base) (g h : List Entry) → IsGood b → AreSeated (based b) g → IsLegal (based b) g →
    IsLegal (based (folded b g)) h → IsLegal (based b) (h ++ g)
legal_whole b g [] good s l m = l
legal_whole b g (e ∷ h) good s l m =
    let front = legal_whole b g h good s l m.1 in
    let same = entry_alike b.header (based b) (based (folded b g)) (h ++ g) h (goes_on b g h good s front)
    e.seat
    m.0.0 in
    ((m.0.0, same ∙ m.0.1), front)

pub legal_goes_on : (b : Base) (g h : List Entry) → IsGood b → AreSeated (based b) g →
    IsLegal (based b) (h ++ g) ↔ (IsLegal (based b) g × IsLegal (based (folded b g)) h)
legal_goes_on b g h good s = (legal_parts b g h good s, λ p. legal_whole b g h good s p.0 p.1)

-- To fold in parts is to fold at once.
standing_alike : (b : Base) (g h : List Entry) (q : List Arrival) →
    AllByRecursion (ReturnAlike b.header (based b) (based (folded b g)) (h ++ g) h) q →
    map (standing_after (folded b g) h) q ≡ map (standing_after b (h ++ g)) q
standing_alike b g h [] all = refl
standing_alike b g h (a ∷ q) all =
    let sleep : cond a.back (last_sleep (based (folded b g)) h a.seat) awake
    ≡ cond a.back (last_sleep (based b) (h ++ g) a.seat) awake = grind (arith, all.0) in
    λ j. stands_from a (sleep j) ∷ standing_alike b g h q all.1 j

sleeper_alike : (b : Base) (g h : List Entry) (xs : List ℕ) →
    ((i : ℕ) → has i xs ≡ true → last_sleep (based b) (h ++ g) i ≡ last_sleep (based (folded b g)) h i) →
    map (sleeper_after (folded b g) h) xs ≡ map (sleeper_after b (h ++ g)) xs
sleeper_alike b g h [] same = refl
sleeper_alike b g h (x ∷ xs) same =
    λ j. record { seat = x; holds = (sym (same x (ap (λ b. b || has x xs) (eq-eqb x x refl))) j).holds }
    ∷ sleeper_alike b g h xs (λ i t. same i (or_right (eqb x i) (has i xs) t)) j

calls_alike : (b : Base) (g h : List Entry) (i : ℕ) → i < b.header.seats →
    calls_of (folded b g) h i ≡ calls_of b (h ++ g) i
calls_alike b g [] i l = ap (λ (x : SeatBase). x.calls) (seat_folded b g i l)
calls_alike b g (e ∷ h) i l =
    ap (λ n. n + cond (eqb e.seat i && ends_call e.word) 1 0) (calls_alike b g h i l)

pub folds_on : (b : Base) (g h : List Entry) → IsGood b → AreSeated (based b) g → IsLegal (based b) (h ++ g) →
    folded (folded b g) h ≡ folded b (h ++ g)
folds_on b g h good s legal =
    λ j. record {
      header = b.header;
      entries = entries j;
      seats = each_agree b.header.seats (seat_after (folded b g) h) (seat_after b (h ++ g)) seat j;
      unheld = sym a.released j;
      count = sym a.left j;
      line = line_on j;
      sleepers = each_agree b.header.conditions
          (λ c. map (sleeper_after (folded b g) h) (sleepers (based (folded b g)) h c))
          (λ c. map (sleeper_after b (h ++ g)) (sleepers (based b) (h ++ g) c)) (λ c l. asleep c) j;
    }
  where
    a : Alike b.header (based b) (based (folded b g)) (h ++ g) h
    a = goes_on b g h good s legal

    entries : b.entries + length g + length h ≡ b.entries + length (h ++ g)
    entries = omega (arith, length-append h g)

    seat : (i : ℕ) → i < b.header.seats → seat_after (folded b g) h i ≡ seat_after b (h ++ g) i
    seat i l =
        λ j. record {
          calls = calls_alike b g h i l j;
          exclusive = sym a.holds j i X;
          shared = sym a.holds j i S;
        }

    line_on : map (standing_after (folded b g) h) (line (based (folded b g)) h)
        ≡ map (standing_after b (h ++ g)) (line (based b) (h ++ g))
    line_on =
        ap (map (standing_after (folded b g) h)) (sym a.stand)
        ∙ standing_alike b g h (line (based b) (h ++ g)) a.returning

    asleep : (c : ℕ) →
        map (sleeper_after (folded b g) h) (sleepers (based (folded b g)) h c)
        ≡ map (sleeper_after b (h ++ g)) (sleepers (based b) (h ++ g) c)
    asleep c =
        ap (λ f. map (sleeper_after (folded b g) h) (f c)) (sym a.asleep)
        ∙ sleeper_alike b g h (sleepers (based b) (h ++ g) c) (a.sleeping c)

-- The fold of no entries is the base.
count_kept : (n c : ℕ) → c ≤ n → n - (n - c) ≡ c
count_kept n c l = omega arith

pub few_counted : (o : Object) (b : Base) → AreCounted o b → b.count ≤ opening_count o
few_counted o b v = grind arith

-- the sleep of each that stands in a line once is found there
abbrev kept_of : LinePlace → Sleep
kept_of p = record { condition = p.condition; holds = p.holds; how = p.how }

abbrev FoundAs : (ℕ → Option Sleep) → LinePlace → Type 0
FoundAs find p = p.who.back ≡ true → find p.who.seat ≡ Some (kept_of p)

past_one : (p : LinePlace) (find : ℕ → Option Sleep) (q : List LinePlace) →
    times p.who.seat (seats_of (map (λ p. p.who) q)) ≡ 0 → AllByRecursion (FoundAs find) q →
    AllByRecursion (FoundAs (λ i. cond (p.who.back && eqb p.who.seat i) (Some (kept_of p)) (find i))) q
past_one p find [] z all = tt
past_one p find (x ∷ q) z all = (
  λ r. let f = all.0 r in let o = once_same x.who.seat p.who.seat in grind (arith, nat_tests, z, f, o),
  past_one p find q (omega (arith, z)) all.1,
)

each_found : (q : List LinePlace) → ((i : ℕ) → times i (seats_of (map (λ p. p.who) q)) ≤ 1) →
    AllByRecursion (FoundAs (λ i. sleep_in_line i q)) q
each_found [] one = tt
each_found (p ∷ q) one = (
  λ r. rw (r, eq-eqb p.who.seat p.who.seat refl) refl,
  past_one p (λ i. sleep_in_line i q) q
      (omega (arith, one p.who.seat, once_same p.who.seat p.who.seat refl))
      (each_found q (λ i. omega (arith, one i))),
)

pub standing_again : (b : Base) (p : LinePlace) → StandsWell b p → FoundAs (λ i. sleep_in_line i b.line) p →
    standing_after b [] p.who ≡ p
standing_again b p well found =
    ⊎_elim
    (λ asks.
    ap (λ r. stands_from p.who (cond r (last_sleep (based b) [] p.who.seat) awake)) asks.0
    ∙ λ j. record {
      who = p.who;
      condition = sym asks.1.condition j;
      holds = sym asks.1.holds j;
      how = sym asks.1.how j;
    })
    (λ comes.
    ap (λ r. stands_from p.who (cond r (last_sleep (based b) [] p.who.seat) awake)) comes.0
    ∙ ap (λ w. stands_from p.who (or_awake (either w (sleep_below b.header.conditions b p.who.seat))))
    (found comes.0))
    well

each_again : (b : Base) (q : List LinePlace) → AllByRecursion (StandsWell b) q →
    AllByRecursion (FoundAs (λ i. sleep_in_line i b.line)) q →
    AllByRecursion (λ p. standing_after b [] p.who ≡ p) q
each_again b [] well found = tt
each_again b (p ∷ q) well found =
    (standing_again b p well.0 found.0, each_again b q well.1 found.1)

-- each that stands in line is written again as it is
pub all_again : (b : Base) → IsGood b → AllByRecursion (λ p. standing_after b [] p.who ≡ p) b.line
all_again b good = each_again b b.line good.line (each_found b.line (λ i. omega (arith, waits_once b good i)))

line_again : (b : Base) (q : List LinePlace) → AllByRecursion (λ p. standing_after b [] p.who ≡ p) q →
    map (standing_after b []) (map (λ p. p.who) q) ≡ q
line_again b [] again = refl
line_again b (p ∷ q) again = λ j. again.0 j ∷ line_again b q again.1 j

-- the sleep of each that sleeps once on a condition is found there
abbrev HeldAs : (ℕ → Option Sleep) → Sleeper → Type 0
HeldAs find x = (w : Sleep) × (find x.seat ≡ Some w) × (w.holds ≡ x.holds)

past_sleeper : (c : ℕ) (y : Sleeper) (find : ℕ → Option Sleep) (xs : List Sleeper) →
    times y.seat (map (λ x. x.seat) xs) ≡ 0 → AllByRecursion (HeldAs find) xs →
    AllByRecursion (HeldAs (λ i. cond (eqb y.seat i)
    (Some (record { condition = c; holds = y.holds; how = end.Signalled })) (find i))) xs
past_sleeper c y find [] z all = tt
past_sleeper c y find (x ∷ xs) z all =
    let apart = ne_eqb y.seat x.seat (λ e. omega (arith, z, once_same x.seat y.seat (sym e))) in
    ((all.0.0, rw apart all.0.1, all.0.2), past_sleeper c y find xs (omega (arith, z)) all.1)

each_held : (c : ℕ) (xs : List Sleeper) → ((i : ℕ) → times i (map (λ x. x.seat) xs) ≤ 1) →
    AllByRecursion (HeldAs (λ i. sleep_on c i xs)) xs
each_held c [] one = tt
each_held c (x ∷ xs) one = (
  (record { condition = c; holds = x.holds; how = end.Signalled }, rw (eq-eqb x.seat x.seat refl) refl, refl),
  past_sleeper c x (λ i. sleep_on c i xs) xs (omega (arith, one x.seat, once_same x.seat x.seat refl))
      (each_held c xs (λ i. omega (arith, one i))),
)

one_found : (v w : Sleep) → Some v ≡ Some w → v ≡ w
one_found v w q = cc

-- Who sleeps on a condition slept there last, with what it gave up.
abbrev pub SleptAs : Base → ℕ → Sleeper → Type 0
SleptAs b c x =
    (has x.seat (sleepers (based b) [] c) ≡ true) × (last_sleep (based b) [] x.seat ≡ sleep_of c x.holds)

each_slept : (b : Base) (good : IsGood b) (c : ℕ) (xs : List Sleeper) →
    AllByRecursion (HeldAs (λ i. sleep_on c i (sleepers_of b c))) xs →
    ((i : ℕ) → has i (map (λ x. x.seat) xs) ≡ true → has i (sleepers (based b) [] c) ≡ true) →
    AllByRecursion (SleptAs b c) xs
each_slept b good c [] kept up = tt
each_slept b good c (x ∷ xs) kept up = (
  (there, slept),
  each_slept b good c xs kept.1
      (λ i t. up i (or_right (eqb x.seat i) (has i (map (λ x. x.seat) xs)) t)),
)
  where
    there : has x.seat (sleepers (based b) [] c) ≡ true
    there = up x.seat (ap (λ t. t || has x.seat (map (λ x. x.seat) xs)) (eq-eqb x.seat x.seat refl))

    slept : last_sleep (based b) [] x.seat ≡ sleep_of c x.holds
    slept =
        let found = slept_there b good c x.seat there in
        found.2 ∙ ap (sleep_of c) (ap (λ (w : Sleep). w.holds)
        (one_found (sleep_of c found.0) kept.0.0 (sym found.1 ∙ kept.0.1)) ∙ kept.0.2)

pub all_slept : (b : Base) → IsGood b → (c : ℕ) → c < b.header.conditions →
    AllByRecursion (SleptAs b c) (sleepers_of b c)
all_slept b good c l =
    each_slept b good c (sleepers_of b c)
    (each_held c (sleepers_of b c) (λ i.
    let p = total_part b.header.conditions (λ d. times i (map (λ x. x.seat) (sleepers_of b d))) c l in
    omega (arith, p, waits_once b good i))) (λ i t. t)

sleepers_again : (b : Base) (c : ℕ) (xs : List Sleeper) → AllByRecursion (SleptAs b c) xs →
    map (sleeper_after b []) (map (λ x. x.seat) xs) ≡ xs
sleepers_again b c [] slept = refl
sleepers_again b c (x ∷ xs) slept =
    λ j. record { seat = x.seat; holds = (slept.0.1 j).holds } ∷ sleepers_again b c xs slept.1 j

pub folds_nothing : (b : Base) → IsGood b → folded b [] ≡ b
folds_nothing b good =
    λ j. record {
      header = b.header;
      entries = entries j;
      seats = list_again nothing b.seats b.header.seats (seat_after b []) good.seats (λ i l. refl) j;
      unheld = b.unheld;
      count = count_kept (opening_count b.header.object) b.count
          (few_counted b.header.object b good.counted) j;
      line = line j;
      sleepers = list_again [] b.sleepers b.header.conditions of good.conditions asleep j;
    }
  where
    entries : b.entries + length {A = Entry} [] ≡ b.entries
    entries = omega arith

    of : ℕ → List Sleeper
    of c = map (sleeper_after b []) (sleepers (based b) [] c)

    line : map (standing_after b []) (Rattle.history.specs.Line.line (based b) []) ≡ b.line
    line =
        ap (map (standing_after b [])) (line_at_first (based b)) ∙ line_again b b.line (all_again b good)

    asleep : (c : ℕ) → c < b.header.conditions → of c ≡ sleepers_of b c
    asleep c l = sleepers_again b c (sleepers_of b c) (all_slept b good c l)
