-- That who waits on a good base can be put in line and to sleep, and what then stands for the base.
use Rattle.std.proofs.Common.{◌≡◌, ⊎_elim, ℕ, ◌<◌, ◌≤◌, List, [], ◌∷◌, length, map, get_or, Option, Some, None, refl, ap, ◌∙◌, sym, subst, arith}
use Rattle.std.specs.List.{AllByRecursion}
use Rattle.std.proofs.lemmas.Bool.{cases_lt}
use Rattle.std.proofs.lemmas.List.{get_or_past, length-map}
use Rattle.audit.specs.Below.{Sleeper, LinePlace, Base, based, either, or_awake, sleep_below, sleep_in_line, sleepers_of, IsGood, SleepsWell, StandsWell, IsInRange, line, Sleep, awake, seats_of, times, asleep_on, sleep_of}
use Rattle.history.proofs.GoodBases.{good_waits, waits_once}
use Rattle.history.proofs.GoodFolds.{line_seated_on}
use Rattle.history.proofs.LineLemmas.{line_at_first}
use Rattle.history.proofs.Times.{total_part}
use Rattle.history.proofs.WhoWaits.{few_wait, one_condition}
use Rattle.audit.specs.declared.waiting.Waiting.{Waiting}
use Rattle.audit.specs.Waiting.{never_slept, WaitingStand}
use Rattle.audit.specs.inner.Waiting.{AreSleepers, or_kept}
use Rattle.history.specs.inner.BaseSleepers.{sleeping_seats}

standing_seated : (b : Base) (n : ℕ) → n ≡ b.header.seats → (q : List LinePlace) →
    AllByRecursion (StandsWell b) q → AllByRecursion (λ p. p.who.seat < n) q
standing_seated b n is [] all = tt
standing_seated b n is (p ∷ q) all = (
  ⊎_elim (λ asks. let l = asks.1.seat in omega (arith, is, l))
      (λ comes. let l = comes.1.gave.seat in omega (arith, is, l)) all.0,
  standing_seated b n is q all.1,
)

sleepers_seated : (b : Base) (n c : ℕ) → n ≡ b.header.seats → (xs : List Sleeper) →
    AllByRecursion (SleepsWell b c) xs → AllByRecursion (λ x. x.seat < n) xs
sleepers_seated b n c is [] all = tt
sleepers_seated b n c is (x ∷ xs) all =
    (let l = all.0.seat in omega (arith, is, l), sleepers_seated b n c is xs all.1)

-- a sleep in line comes before one on a condition
found_first : (a b : Option Sleep) → or_kept a (or_kept b awake) ≡ or_awake (either a b)
found_first None None = refl
found_first None (Some w) = refl
found_first (Some w) b = refl

pub kept_behind : (i : ℕ) (q r : List LinePlace) (was now : Sleep) → q ≡ r → was ≡ now →
    or_kept (sleep_in_line i q) was ≡ or_kept (sleep_in_line i r) now
kept_behind i q r was now same is =
    ap (λ (x : List LinePlace). or_kept (sleep_in_line i x) was) same ∙ ap (or_kept (sleep_in_line i r)) is

module _ (b : Base) (good : IsGood b) where
  pub line_seated : (q : List LinePlace) → q ≡ b.line → (n : ℕ) → n ≡ b.header.seats →
      AllByRecursion (λ p. p.who.seat < n) q
  line_seated q same n is =
      standing_seated b n is q (subst (AllByRecursion (StandsWell b)) (sym same) good.line)

  pub line_once : (q : List LinePlace) → q ≡ b.line → (i : ℕ) → times i (seats_of (map (λ p. p.who) q)) ≤ 1
  line_once q same i =
      let w = waits_once b good i in
      let e = ap (λ (r : List LinePlace). times i (seats_of (map (λ p. p.who) r))) same in
      omega (arith, w, e)

  pub line_short : (q : List LinePlace) → q ≡ b.line → IsInRange b.header → length q ≤ 256
  line_short q same range =
      let few = few_wait (based b) [] (good_waits b good) (line_seated_on b good [] tt tt) in
      let long = ap length (line_at_first (based b)) ∙ length-map b.line (λ (p : LinePlace). p.who) in
      let seats = range.seats in
      let e = ap length same in
      omega (arith, few, long, seats, e)

  -- nobody sleeps on a condition that the object lacks
  no_sleepers : (c : ℕ) → b.header.conditions ≤ c → sleepers_of b c ≡ []
  no_sleepers c above = get_or_past b.sleepers c [] (let n = good.conditions in omega (arith, n, above))

  pub all_seated : (n : ℕ) → n ≡ b.header.seats → (c : ℕ) →
      AllByRecursion (λ x. x.seat < n) (sleepers_of b c)
  all_seated n is c = sleepers_seated b n c is (sleepers_of b c) (good.sleepers c)

  sleeps_once : (c i : ℕ) → times i (sleeping_seats b c) ≤ 1
  sleeps_once c i = ⊎_elim within beyond (cases_lt c b.header.conditions)
    where
      within : c < b.header.conditions → times i (sleeping_seats b c) ≤ 1
      within l =
          let part = total_part b.header.conditions (λ d. times i (sleeping_seats b d)) c l in
          let w = waits_once b good i in
          omega (arith, part, w)

      beyond : b.header.conditions ≤ c → times i (sleeping_seats b c) ≤ 1
      beyond above =
          let none = ap (λ (xs : List Sleeper). times i (map (λ x. x.seat) xs)) (no_sleepers c above) in
          omega (arith, none)

  pub are_sleepers : (n : ℕ) → n ≡ b.header.seats → AreSleepers n b
  are_sleepers n is =
      record {
        seated = all_seated n is;
        once = sleeps_once;
        apart = λ c d i t u. one_condition (based b) [] (good_waits b good) i c d t u;
      }

  pub stands_on : IsInRange b.header → (w : Waiting) → w.line.arrivals ≡ map (λ p. p.who) b.line →
      w.line.joined ≡ length b.line → w.line.seats ≡ b.header.seats →
      ((c : ℕ) → c < b.header.conditions → asleep_on w.asleep c ≡ sleeping_seats b c) →
      ((c : ℕ) → b.header.conditions ≤ c → asleep_on w.asleep c ≡ []) →
      w.asleep.conditions ≡ b.header.conditions → w.asleep.seats ≡ b.header.seats →
      length w.last_sleep.items ≡ b.header.seats →
      ((i : ℕ) → sleep_of (get_or w.last_sleep.items i never_slept)
      ≡ or_kept (sleep_in_line i b.line) (or_kept (sleep_below b.header.conditions b i) awake)) →
      WaitingStand (based b) [] w
  stands_on range w line joined places lists above conditions beds seats slept =
      record {
        kept = record {
          line = line ∙ sym (line_at_first (based b));
          places = places;
          sleepers = λ c. ⊎_elim (lists c)
              (λ l. above c l ∙ ap (λ (xs : List Sleeper). map (λ x. x.seat) xs) (sym (no_sleepers c l)))
              (cases_lt c b.header.conditions);
          conditions = conditions;
          beds = beds;
        };
        joins = let s = line_short b.line refl range in omega (arith, joined, s);
        seats = seats;
        slept = λ i. slept i ∙ found_first (sleep_in_line i b.line) (sleep_below b.header.conditions b i);
      }
