-- The fold of one entry, part by part.
use Rattle.std.proofs.Common.{◌≡◌, ◌≢◌, ◌⊎◌, ⊎_elim, inl, inr, ℕ, zero, suc, ◌+◌, ◌-◌, ◌<◌, ◌≤◌, Bool, true, not, cond, eqb, List, [], ◌∷◌, ◌++◌, map, take, drop, length, get_or, set, Some, refl, ap, ◌∙◌, sym, subst, arith, eq-eqb, ne_eqb, ext_get_or, get_or-set_other, get_or-set_same, length-set}
use Rattle.std.proofs.Math.Nat.{add-zero}
use Rattle.std.specs.List.{filter, AllByRecursion}
use Rattle.std.proofs.lemmas.Bool.{cases_eq}
use Rattle.std.proofs.lemmas.List.{drop-map, map-append, take-map}
use Rattle.history.specs.Prelude.{MOST_FOLDED, Arrival, Sleeper, LinePlace, Entry, Word, Base, based, each_below, folded, nothing, or_awake, seat_after, seat_of, sleep_on, sleeper_after, sleepers_of, standing_after, stands_from, counted_after, unheld, IsGood, IsModest, IsInRange, AreSeated, IsLegal, arrivals_by, coming_back, line, count_then, joins_line, next_base, seat_then, signalled_on, sleepers_then, stays_there, opening_count, CanFold, has, last_sleep, sleep_after, sleepers, sleepers_after, without, Sleep, awake, times}
use Rattle.history.specs.declared.entry.Word.TheVariants as word
use Rattle.history.proofs.Entering.{Known, KnownBy, known}
use Rattle.history.proofs.Folding.{SleptAs, all_again, all_slept, few_counted, folds_on, get_or-each, legal_goes_on, length-each}
use Rattle.history.proofs.GoodBases.{good_waits, sleep_of, slept_there}
use Rattle.history.proofs.GoodFolds.{fold_good}
use Rattle.history.proofs.LineLemmas.{line_after, line_at_first, stays}
use Rattle.history.proofs.OneWait.{Waits, acts, idle_waits_nowhere, lapsing, last_sleep_own, line_stays}
use Rattle.history.proofs.Points.{seated_behind}
use Rattle.history.proofs.SleepLemmas.{last_sleep_other, sleepers_here, sleepers_other, times-waiting}
use Rattle.history.proofs.Times.{each-filter, has_once, total_part}

-- a list of what each number below has, where one number has something else than in another list
each_set : {A : Type 0} (d : A) (n : ℕ) (f : ℕ → A) (xs : List A) (i : ℕ) (x : A) → length xs ≡ n →
    (i < n → f i ≡ x) → ((j : ℕ) → j < n → i ≢ j → f j ≡ get_or xs j d) → each_below n f ≡ set xs i x
each_set d n f xs i x len here other =
    ext_get_or d (each_below n f) (set xs i x) (length-each n f ∙ sym len ∙ sym (length-set xs i x))
    (λ j l.
    let m : j < n = let many = length-each n f in omega (arith, many, l) in
    get_or-each n f j d m ∙ ⊎_elim (same j m) (λ ne. other j m ne ∙ sym (get_or-set_other xs i j x d
    (λ q. ne (sym q)))) (cases_eq i j))
  where
    same : (j : ℕ) → j < n → i ≡ j → f j ≡ get_or (set xs i x) j d
    same j m q =
        ap f (sym q) ∙ here (omega (arith, q, m)) ∙ sym (get_or-set_same xs i x d (omega (arith, len, q, m)))
        ∙ ap (λ k. get_or (set xs i x) k d) q

-- the entry's seat, and the others
module _ (b : Base) (e : Entry) where
  pub own_seat : seat_after b (e ∷ []) e.seat ≡ seat_then b.header.object e (seat_of b e.seat)
  own_seat = rw (eq-eqb e.seat e.seat refl) refl

  other_seat : (i : ℕ) → e.seat ≢ i → seat_after b (e ∷ []) i ≡ seat_of b i
  other_seat i ne = rw (ne_eqb e.seat i ne, add-zero (seat_of b i).calls) refl

  next_seats : length b.seats ≡ b.header.seats → e.seat < b.header.seats →
      each_below b.header.seats (seat_after b (e ∷ []))
      ≡ set b.seats e.seat (seat_then b.header.object e (seat_of b e.seat))
  next_seats len seat =
      each_set nothing b.header.seats (seat_after b (e ∷ [])) b.seats e.seat
      (seat_then b.header.object e (seat_of b e.seat)) len (λ l. own_seat) (λ i l ne. other_seat i ne)

next_count : (w : Word) (n c : ℕ) → c ≤ n → n - counted_after w (n - c) ≡ count_then w c
next_count w n c l = grind arith

standing_left : (b : Base) (e : Entry) (a : Arrival) → e.seat ≢ a.seat →
    standing_after b (e ∷ []) a ≡ standing_after b [] a
standing_left b e a ne =
    ap (λ w. stands_from a (cond a.back w awake)) (last_sleep_other (based b) e [] a.seat ne)

-- whoever stays in line
stays_as : (e : Entry) (q : List LinePlace) →
    filter (stays e.word e.seat) (map (λ p. p.who) q) ≡ map (λ p. p.who) (filter (stays_there e) q)
stays_as e [] = refl
stays_as e (p ∷ q) = grind (arith, stays_as e q)

left_again : (b : Base) (e : Entry) (q : List LinePlace) →
    AllByRecursion (λ a. e.seat ≢ a.seat) (map (λ p. p.who) q) →
    AllByRecursion (λ p. standing_after b [] p.who ≡ p) q →
    map (standing_after b (e ∷ [])) (map (λ p. p.who) q) ≡ q
left_again b e [] others again = refl
left_again b e (p ∷ q) others again =
    λ j. (standing_left b e p.who others.0 ∙ again.0) j ∷ left_again b e q others.1 again.1 j

each_unit : {A : Type 0} (xs : List A) → AllByRecursion (λ x. Unit {0}) xs
each_unit [] = tt
each_unit (x ∷ xs) = (tt, each_unit xs)

-- whoever a signal moves
keeps_sleep : (w : Word) (e : Entry) (t : Bool) (was : Sleep) → (w ≡ word.Signal) ⊎ (w ≡ word.SignalAll) →
    cond t (sleep_after w e was) was ≡ was
keeps_sleep w e t was q = grind arith

moved_again : (b : Base) (e : Entry) (xs : List Sleeper) →
    (e.word ≡ word.Signal) ⊎ (e.word ≡ word.SignalAll) →
    AllByRecursion (SleptAs b e.at) xs →
    map (standing_after b (e ∷ [])) (map coming_back (map (λ x. x.seat) xs)) ≡ map (signalled_on e.at) xs
moved_again b e [] w slept = refl
moved_again b e (x ∷ xs) w slept =
    λ j. stands_from (coming_back x.seat)
    ((keeps_sleep e.word e (eqb e.seat x.seat) (last_sleep (based b) [] x.seat) w ∙ slept.0.1) j)
    ∷ moved_again b e xs w slept.1 j

each_taken : {A : Type 0} (P : A → Type 0) (n : ℕ) (xs : List A) → AllByRecursion P xs →
    AllByRecursion P (take n xs)
each_taken P zero xs all = tt
each_taken P (suc n) [] all = tt
each_taken P (suc n) (x ∷ xs) all = (all.0, each_taken P n xs all.1)

each_dropped : {A : Type 0} (P : A → Type 0) (n : ℕ) (xs : List A) → AllByRecursion P xs →
    AllByRecursion P (drop n xs)
each_dropped P zero xs all = all
each_dropped P (suc n) [] all = tt
each_dropped P (suc n) (x ∷ xs) all = each_dropped P n xs all.1

without_seats : (i : ℕ) (xs : List Sleeper) →
    without i (map (λ x. x.seat) xs) ≡ map (λ x. x.seat) (filter (λ x. not (eqb x.seat i)) xs)
without_seats i [] = refl
without_seats i (x ∷ xs) = grind (arith, without_seats i xs)

module _ (b : Base) (e : Entry) (good : IsGood b) (k : Known (based b) [] e) where
  start : Waits (based b) []
  start = good_waits b good

  on_condition : e.at < b.header.conditions → AllByRecursion (SleptAs b e.at) (sleepers_of b e.at)
  on_condition l = all_slept b good e.at l

  joins_again : (w : Word) → e.word ≡ w → KnownBy (based b) [] e w →
      map (standing_after b (e ∷ [])) (arrivals_by (based b) w e []) ≡ joins_line b w e
  joins_again word.Signal q k =
      ap (λ l. map (standing_after b (e ∷ [])) (map coming_back l)) (take-map (λ x. x.seat) e.n (sleepers_of b e.at))
      ∙ moved_again b e (take e.n (sleepers_of b e.at)) (inl q)
      (each_taken (SleptAs b e.at) e.n (sleepers_of b e.at) (on_condition k.0.condition))
  joins_again word.SignalAll q k =
      moved_again b e (sleepers_of b e.at) (inr q) (on_condition k.0.condition)
  joins_again word.Lapse q k =
      let lapse = lapsing (based b) [] e start k.0 k.2 in
      let found = slept_there b good e.at e.seat lapse.0 in
      λ j. stands_from (coming_back e.seat) (slept found.0 found.1 found.2 j) ∷ []
    where
      slept : (n : ℕ) → sleep_on e.at e.seat (sleepers_of b e.at) ≡ Some (sleep_of e.at n) →
          last_sleep (based b) [] e.seat ≡ sleep_of e.at n →
          last_sleep (based b) (e ∷ []) e.seat
          ≡ record {
            condition = e.at;
            holds = (or_awake (sleep_on e.at e.seat (sleepers_of b e.at))).holds;
            how = e.end;
          }
      slept n on was =
          last_sleep_own (based b) e []
          ∙ ap (λ w. sleep_after w e (last_sleep (based b) [] e.seat)) q
          ∙ ap (sleep_after word.Lapse e) was
          ∙ ap (λ w. record { condition = e.at; holds = (or_awake w).holds; how = e.end }) (sym on)
  joins_again _ q k = refl

  next_line : map (standing_after b (e ∷ [])) (line (based b) (e ∷ []))
      ≡ filter (stays_there e) b.line ++ joins_line b e.word e
  next_line =
      ap (map (standing_after b (e ∷ []))) (line_after (based b) e [])
      ∙ map-append (standing_after b (e ∷ [])) (filter (stays e.word e.seat) (line (based b) []))
      (arrivals_by (based b) e.word e [])
      ∙ (λ j. stay j ++ joins_again e.word refl k j)
    where
      at_first : filter (stays e.word e.seat) (line (based b) []) ≡ map (λ p. p.who) (filter (stays_there e)
          b.line)
      at_first = ap (filter (stays e.word e.seat)) (line_at_first (based b)) ∙ stays_as e b.line

      others : AllByRecursion (λ a. e.seat ≢ a.seat) (map (λ p. p.who) (filter (stays_there e) b.line))
      others =
          subst (AllByRecursion (λ (a : Arrival). e.seat ≢ a.seat)) at_first
          (line_stays (λ a. Unit {0}) (λ a. e.seat ≢ a.seat) (based b) [] e (acts (based b) [] e k)
          (λ a ne u. ne) (each_unit (line (based b) [])))

      stay : map (standing_after b (e ∷ [])) (filter (stays e.word e.seat) (line (based b) []))
          ≡ filter (stays_there e) b.line
      stay =
          ap (map (standing_after b (e ∷ []))) at_first
          ∙ left_again b e (filter (stays_there e) b.line) others
          (each-filter (λ p. standing_after b [] p.who ≡ p) (stays_there e) b.line (all_again b good))

  -- what a sleeper gave up stays so
  holds_left : (c i : ℕ) → c < b.header.conditions → has i (sleepers (based b) [] c) ≡ true →
      (last_sleep (based b) (e ∷ []) i).holds ≡ (last_sleep (based b) [] i).holds
  holds_left c i l t =
      ⊎_elim own (λ ne. ap (λ (w : Sleep). w.holds) (last_sleep_other (based b) e [] i ne))
      (cases_eq e.seat i)
    where
      was : Sleep
      was = last_sleep (based b) [] e.seat

      no_await : KnownBy (based b) [] e word.Await → e.seat ≡ i → ⊥
      no_await k same =
          let z = idle_waits_nowhere (based b) [] e.seat k.0.idle in
          let w = times-waiting (based b) [] e.seat in
          let p = total_part b.header.conditions (λ d. times e.seat (sleepers (based b) [] d)) c l in
          let o = has_once e.seat (sleepers (based b) [] c)
          (subst (λ j. has j (sleepers (based b) [] c) ≡ true) (sym same) t) in
          omega (arith, z, w, p, o)

      by : (w : Word) → KnownBy (based b) [] e w → e.seat ≡ i → (sleep_after w e was).holds ≡ was.holds
      by word.Await k same = absurd (no_await k same)
      by word.Lapse k same = refl
      by _ k same = refl

      own : e.seat ≡ i → (last_sleep (based b) (e ∷ []) i).holds ≡ (last_sleep (based b) [] i).holds
      own same =
          ap (λ j. (last_sleep (based b) (e ∷ []) j).holds) (sym same)
          ∙ ap (λ (w : Sleep). w.holds) (last_sleep_own (based b) e [])
          ∙ by e.word k same
          ∙ ap (λ j. (last_sleep (based b) [] j).holds) same

  list_left : (c : ℕ) → c < b.header.conditions → (xs : List Sleeper) → AllByRecursion (SleptAs b c) xs →
      map (sleeper_after b (e ∷ [])) (map (λ x. x.seat) xs) ≡ xs
  list_left c l [] slept = refl
  list_left c l (x ∷ xs) slept =
      λ j. record {
        seat = x.seat;
        holds = (holds_left c x.seat l slept.0.0 ∙ ap (λ (w : Sleep). w.holds) slept.0.1) j;
      }
      ∷ list_left c l xs slept.1 j

  list_then : e.at < b.header.conditions → (w : Word) → e.word ≡ w →
      map (sleeper_after b (e ∷ [])) (sleepers_after w e.seat e.n (map (λ x. x.seat) (sleepers_of b e.at)))
      ≡ sleepers_then w e (sleepers_of b e.at)
  list_then l word.Await q =
      map-append (sleeper_after b (e ∷ [])) (map (λ x. x.seat) (sleepers_of b e.at)) (e.seat ∷ [])
      ∙ (λ j. list_left e.at l (sleepers_of b e.at) (all_slept b good e.at l) j
      ++ record { seat = e.seat; holds = gave j } ∷ [])
    where
      gave : (last_sleep (based b) (e ∷ []) e.seat).holds ≡ e.n
      gave =
          ap (λ (w : Sleep). w.holds) (last_sleep_own (based b) e []
          ∙ ap (λ w. sleep_after w e (last_sleep (based b) [] e.seat)) q)
  list_then l word.Lapse q =
      ap (map (sleeper_after b (e ∷ []))) (without_seats e.seat (sleepers_of b e.at))
      ∙ list_left e.at l (filter (λ x. not (eqb x.seat e.seat)) (sleepers_of b e.at))
      (each-filter (SleptAs b e.at) (λ x. not (eqb x.seat e.seat)) (sleepers_of b e.at)
      (all_slept b good e.at l))
  list_then l word.Signal q =
      ap (map (sleeper_after b (e ∷ []))) (drop-map (λ x. x.seat) e.n (sleepers_of b e.at))
      ∙ list_left e.at l (drop e.n (sleepers_of b e.at))
      (each_dropped (SleptAs b e.at) e.n (sleepers_of b e.at) (all_slept b good e.at l))
  list_then l word.SignalAll q = refl
  list_then l _ q = list_left e.at l (sleepers_of b e.at) (all_slept b good e.at l)

  next_sleepers : each_below b.header.conditions
      (λ c. map (sleeper_after b (e ∷ [])) (sleepers (based b) (e ∷ []) c))
      ≡ set b.sleepers e.at (sleepers_then e.word e (sleepers_of b e.at))
  next_sleepers =
      each_set [] b.header.conditions (λ c. map (sleeper_after b (e ∷ [])) (sleepers (based b) (e ∷ []) c))
      b.sleepers e.at (sleepers_then e.word e (sleepers_of b e.at)) good.conditions
      (λ l.
      ap (map (sleeper_after b (e ∷ []))) (sleepers_here (based b) e []) ∙ list_then l e.word refl)
      (λ c l ne.
      ap (map (sleeper_after b (e ∷ []))) (sleepers_other (based b) e [] c ne)
      ∙ list_left c l (sleepers_of b c) (all_slept b good c l))

-- The fold of one entry.
pub next_is : (b : Base) (e : Entry) → CanFold b (e ∷ []) → folded b (e ∷ []) ≡ next_base b e
next_is b e can =
    λ j. record {
      header = b.header;
      entries = entries j;
      seats = next_seats b e can.good.seats can.seated.0 j;
      unheld = unheld (based b) (e ∷ []);
      count = next_count e.word (opening_count b.header.object) b.count
          (few_counted b.header.object b can.good.counted) j;
      line = next_line b e can.good k j;
      sleepers = next_sleepers b e can.good k j;
    }
  where
    k : Known (based b) [] e
    k = known (based b) [] can.legal.0.0 e can.legal.0.1

    entries : b.entries + length (e ∷ []) ≡ b.entries + 1
    entries = omega arith

-- What can be folded behind a front can be folded on the fold of the front.
seated_front : (b : Base) (g h : List Entry) → AreSeated (based b) (h ++ g) → AreSeated (based (folded b g)) h
seated_front b g [] a = tt
seated_front b g (e ∷ h) a = (a.0, seated_front b g h a.1)

pub can_go_on : (b : Base) (g h : List Entry) → IsInRange b.header → IsModest b →
    b.entries + length g ≤ MOST_FOLDED → CanFold b (h ++ g) → CanFold (folded b g) h
can_go_on b g h range modest few can =
    record {
      good = fold_good b g range
          (record { good = can.good; seated = seated; legal = parts.0 }) few modest;
      seated = seated_front b g h can.seated;
      legal = parts.1;
    }
  where
    seated : AreSeated (based b) g
    seated = seated_behind (based b) h g can.seated

    parts : IsLegal (based b) g × IsLegal (based (folded b g)) h
    parts = (legal_goes_on b g h can.good seated).0 can.legal

-- A fold goes on from entry to entry.
pub fold_next : (b : Base) (g : List Entry) (e : Entry) → IsInRange b.header → IsModest b →
    b.entries + length g ≤ MOST_FOLDED → CanFold b (e ∷ g) → folded b (e ∷ g) ≡ next_base (folded b g) e
fold_next b g e range modest few can =
    sym (folds_on b g (e ∷ []) can.good can.seated.1 can.legal)
    ∙ next_is (folded b g) e (can_go_on b g (e ∷ []) range modest few can)
