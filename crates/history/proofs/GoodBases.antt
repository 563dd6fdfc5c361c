-- What a good base says of who waits.
use Rattle.std.proofs.Common.{◌≡◌, ◌≢◌, ⊎_elim, ℕ, zero, suc, ◌+◌, ◌<◌, ◌≤◌, Bool, true, false, ◌&&◌, ◌||◌, cond, eqb, List, [], ◌∷◌, map, Some, None, refl, ap, ◌∙◌, sym, subst, arith, eqb-true, eq-eqb}
use Rattle.std.specs.List.{AllByRecursion}
use Rattle.std.proofs.lemmas.Bool.{cases_eq, or_right}
use Rattle.std.proofs.lemmas.Bool.Decides.{nat_tests}
use Rattle.history.specs.Prelude.{Arrival, Sleeper, LinePlace, Object, Lock, ReadWrite, Base, based, either, or_awake, sleep_below, sleep_in_line, sleep_on, sleepers_of, total, AreHeld, GaveUp, IsGood, SleepsWell, StandsWell, line, is_lock, IsOwned, most_exclusive, has, last_sleep, sleepers, Sleep, seats_of, times}
use Rattle.history.specs.declared.entry.End.TheVariants as end
use Rattle.history.proofs.LineLemmas.{line_at_first}
use Rattle.history.proofs.OneWait.{Saved, SavedIfBack, Sleeps, Waits}
use Rattle.history.proofs.SleepLemmas.{times-waiting}
use Rattle.history.proofs.Times.{has_once, never_has, total_part}

abbrev pub sleep_of : ℕ → ℕ → Sleep
sleep_of c n = record { condition = c; holds = n; how = end.Signalled }

-- Who sleeps on a condition is found there with what it gave up, and nobody else is.
found_on : (b : Base) (c i : ℕ) (xs : List Sleeper) → AllByRecursion (SleepsWell b c) xs →
    has i (map (λ x. x.seat) xs) ≡ true →
    (n : ℕ) × (sleep_on c i xs ≡ Some (sleep_of c n)) × GaveUp b i c n
found_on b c i [] all t = cc
found_on b c i (x ∷ xs) all t = grind (arith, nat_tests, found_on b c i xs all.1)

not_on : (c i : ℕ) (xs : List Sleeper) → has i (map (λ x. x.seat) xs) ≡ false → sleep_on c i xs ≡ None
not_on c i [] f = refl
not_on c i (x ∷ xs) f = grind (arith, not_on c i xs)

-- whoever sleeps on one condition alone is found there
found_below : (b : Base) (i c n d : ℕ) → d < n → sleep_on d i (sleepers_of b d) ≡ Some (sleep_of d c) →
    ((x : ℕ) → x < n → x ≢ d → sleep_on x i (sleepers_of b x) ≡ None) →
    sleep_below n b i ≡ Some (sleep_of d c)
found_below b i c zero d l here none = absurd (omega arith)
found_below b i c (suc n) d l here none =
    let ih : d < n → sleep_below n b i ≡ Some (sleep_of d c) =
    λ m. found_below b i c n d m here (λ x k. none x (omega (arith, k))) in
    grind (arith, cases_eq n d, none n (omega arith), ih)

-- one who is in no line comes back from nowhere
not_in_line : (i : ℕ) (q : List LinePlace) → times i (seats_of (map (λ p. p.who) q)) ≡ 0 →
    sleep_in_line i q ≡ None
not_in_line i [] z = refl
not_in_line i (p ∷ q) z = grind (arith, nat_tests, not_in_line i q)

-- who comes back in a line is found there with a sleep that it gave up its holds for
abbrev comes_in : ℕ → List LinePlace → Bool
comes_in i [] = false
comes_in i (p ∷ q) = (p.who.back && eqb p.who.seat i) || comes_in i q

record WellFound (b : Base) (i : ℕ) (w : Sleep) : Type 0 where
  gave : GaveUp b i w.condition w.holds
  how : w.how ≢ end.None

found_in_line : (b : Base) (i : ℕ) (q : List LinePlace) → AllByRecursion (StandsWell b) q →
    comes_in i q ≡ true → (w : Sleep) × (sleep_in_line i q ≡ Some w) × WellFound b i w
found_in_line b i [] all t = cc
found_in_line b i (p ∷ q) all t =
    by p.who.back (eqb p.who.seat i) refl refl t (λ u. found_in_line b i q all.1 u)
  where
    here : Sleep
    here = record { condition = p.condition; holds = p.holds; how = p.how }

    well : p.who.back ≡ true → p.who.seat ≡ i → WellFound b i here
    well r e =
        ⊎_elim (λ asks. let f = asks.0 in cc (r, f))
        (λ comes. record {
          gave = subst (λ j. GaveUp b j p.condition p.holds) e comes.1.gave;
          how = comes.1.how;
        })
        all.0

    by : (r u : Bool) → p.who.back ≡ r → eqb p.who.seat i ≡ u → ((r && u) || comes_in i q) ≡ true →
        (comes_in i q ≡ true → (w : Sleep) × (sleep_in_line i q ≡ Some w) × WellFound b i w) →
        (w : Sleep) × (cond (r && u) (Some here) (sleep_in_line i q) ≡ Some w) × WellFound b i w
    by true true e f v ih = (here, refl, well e (eqb-true p.who.seat i f))
    by true false e f v ih = ih v
    by false u e f v ih = ih v

-- two parts of a sum
total_two : (n : ℕ) (f : ℕ → ℕ) (c d : ℕ) → c < n → d < n → c ≢ d → f c + f d ≤ total n f
total_two zero f c d l m ne = absurd (omega arith)
total_two (suc n) f c d l m ne =
    grind (arith, cases_eq n c, cases_eq n d, total_part n f c, total_part n f d, total_two n f c d)

module _ (b : Base) (good : IsGood b) where
  line_is : line (based b) [] ≡ map (λ p. p.who) b.line
  line_is = line_at_first (based b)

  pub waits_once : (i : ℕ) →
      times i (seats_of (map (λ p. p.who) b.line)) + total b.header.conditions
      (λ c. times i (map (λ x. x.seat) (sleepers_of b c))) ≤ 1
  waits_once i =
      let w = times-waiting (based b) [] i in
      let o = good.once i in
      let l : times i (seats_of (line (based b) [])) ≡ times i (seats_of (map (λ p. p.who) b.line)) =
      ap (λ q. times i (seats_of q)) line_is in
      omega (arith, w, o, l)

  saved_from : (i : ℕ) (w : Sleep) → last_sleep (based b) [] i ≡ w → GaveUp b i w.condition w.holds →
      Saved (based b) [] i
  saved_from i w q gave =
      let e = sym q in
      record {
        lock = gave.lock;
        seat = gave.seat;
        condition = subst (λ (x : Sleep). x.condition < b.header.conditions) e gave.condition;
        some = subst (λ (x : Sleep). 1 ≤ x.holds) e gave.some;
        most = subst (λ (x : Sleep). x.holds ≤ most_exclusive b.header.object) e gave.most;
        nothing = gave.nothing;
      }

  -- whoever sleeps on a condition is found there, and nowhere else
  pub slept_there : (c i : ℕ) → has i (sleepers (based b) [] c) ≡ true →
      (n : ℕ) × (sleep_on c i (sleepers_of b c) ≡ Some (sleep_of c n))
      × (last_sleep (based b) [] i ≡ sleep_of c n) × GaveUp b i c n
  slept_there c i t = (found.0, found.1, slept, found.2)
    where
      found : (n : ℕ) × (sleep_on c i (sleepers_of b c) ≡ Some (sleep_of c n)) × GaveUp b i c n
      found = found_on b c i (sleepers_of b c) (good.sleepers c) t

      below : c < b.header.conditions
      below = found.2.condition

      nowhere_else : (d : ℕ) → d < b.header.conditions → d ≢ c → sleep_on d i (sleepers_of b d) ≡ None
      nowhere_else d l ne =
          not_on d i (sleepers_of b d) (never_has i (map (λ x. x.seat) (sleepers_of b d))
          (let two = total_two b.header.conditions (λ d. times i (map (λ x. x.seat) (sleepers_of b d))) d c l
          below ne in
          let o = has_once i (map (λ x. x.seat) (sleepers_of b c)) t in
          let w = waits_once i in
          omega (arith, two, o, w)))

      in_no_line : sleep_in_line i b.line ≡ None
      in_no_line =
          not_in_line i b.line
          (let part = total_part b.header.conditions (λ d. times i (map (λ x. x.seat) (sleepers_of b d))) c
          below in
          let o = has_once i (map (λ x. x.seat) (sleepers_of b c)) t in
          let w = waits_once i in
          omega (arith, part, o, w))

      slept : last_sleep (based b) [] i ≡ sleep_of c found.0
      slept =
          ap (λ w. or_awake (either w (sleep_below b.header.conditions b i))) in_no_line
          ∙ ap or_awake (found_below b i found.0 b.header.conditions c below found.1 nowhere_else)

  sleeps_well : (c i : ℕ) → has i (sleepers (based b) [] c) ≡ true → Sleeps (based b) [] c i
  sleeps_well c i t =
      let found = slept_there c i t in
      record {
        saved = saved_from i (sleep_of c found.0) found.2 found.3;
        condition = ap (λ (w : Sleep). w.condition) found.2;
        how = ap (λ (w : Sleep). w.how) found.2;
      }

  comes_well : (p : LinePlace) → StandsWell b p → comes_in p.who.seat b.line ≡ true →
      SavedIfBack (based b) [] p.who
  comes_well p well t r =
      ⊎_elim (λ asks. let f = asks.0 in absurd (cc (r, f)))
      (λ comes. record {
        saved = saved_from p.who.seat found.0 slept found.2.gave;
        mode = ap (λ (a : Arrival). a.mode) comes.1.who;
        n = ap (λ (a : Arrival). a.n) comes.1.who;
        how = λ q. found.2.how (ap (λ (w : Sleep). w.how) (sym slept) ∙ q);
      })
      well
    where
      found : (w : Sleep) × (sleep_in_line p.who.seat b.line ≡ Some w) × WellFound b p.who.seat w
      found = found_in_line b p.who.seat b.line good.line t

      slept : last_sleep (based b) [] p.who.seat ≡ found.0
      slept = ap (λ w. or_awake (either w (sleep_below b.header.conditions b p.who.seat))) found.1

  each_comes_well : (q : List LinePlace) → AllByRecursion (StandsWell b) q →
      ((i : ℕ) → comes_in i q ≡ true → comes_in i b.line ≡ true) →
      AllByRecursion (SavedIfBack (based b) []) (map (λ p. p.who) q)
  each_comes_well [] all up = tt
  each_comes_well (p ∷ q) all up = (
    λ r. comes_well p all.0 (up p.who.seat (here r)) r,
    each_comes_well q all.1 (λ i t. up i (or_right (p.who.back && eqb p.who.seat i) (comes_in i q) t)),
  )
    where
      here : p.who.back ≡ true → ((p.who.back && eqb p.who.seat p.who.seat) || comes_in p.who.seat q) ≡ true
      here r = rw (r, eq-eqb p.who.seat p.who.seat refl) refl

  pub good_owned : is_lock b.header.object ≡ true → IsOwned (based b) []
  good_owned lock = by b.header.object lock good.held
    where
      by : (o : Object) → is_lock o ≡ true → AreHeld o b → IsOwned (based b) []
      by (Lock p) t v = v
      by (ReadWrite p) t v = v
      by _ t v = absurd (cc)

  pub good_waits : Waits (based b) []
  good_waits =
      record {
        once = good.once;
        sleepers = sleeps_well;
        line = subst (AllByRecursion (SavedIfBack (based b) [])) (sym line_is)
            (each_comes_well b.line good.line (λ i t. t));
        holds = λ i l lock. (good_owned lock).exclusive i;
      }
