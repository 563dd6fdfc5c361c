-- What a ledger says of the levels of a seat, and which levels an entry leaves.
use Rattle.std.proofs.Common.{◌≡◌, ◌≢◌, ℕ, zero, suc, Bool, true, false, ◌||◌, eqb, List, [], ◌∷◌, ◌++◌, map, take, drop, Option, None, Some, refl, arith, ap, ◌∙◌, sym, eq-eqb, ne_eqb}
use Rattle.std.proofs.lemmas.Bool.Decides.{nat_tests}
use Rattle.drawing.specs.Below.{Arrival, Entry, IsHistory, LastSleep, Start, Word, X, S, arrivals_by, coming_back, has, is_away, is_placed, is_signal, last_sleep, line, phase, phase_by, place_of, sleep_of, sleepers, sleepers_after, sleeps_below, without}
use Rattle.history.specs.Start.{Sleep}
use Rattle.history.specs.declared.entry.Word.TheVariants as word
use Rattle.deciding.proofs.Bounds.{waits_by}
use Rattle.history.proofs.OneWait.{Waits}
use Rattle.history.proofs.SleepLemmas.{held_other, sleeps_there}
use Rattle.history.proofs.Staying.{arrives_by, stays_in_line}
use Rattle.history.proofs.WhoWaits.{asleep_out_of_line, sleeper_condition}
use Rattle.drawing.specs.Prelude.{Kind, Exclusive, Shared, InLine, Asleep, level, one_if}

-- ---- who waits on a condition: one whose last sleep is there

there : (s : Start) (h : List Entry) → Waits s h → (i c : ℕ) → has i (sleepers s h c) ≡ true →
    (sleeps_below s.header.conditions s h i ≡ true) × ((last_sleep s h i).condition ≡ c)
there s h v i c t =
    let u = v.sleepers c i t in
    (sleeps_there s.header.conditions s h i c (omega (arith, u.saved.condition, u.condition)) t, u.condition)

away : (o : Option Arrival) (b : Bool) → o ≡ None → b ≡ true → is_away (phase_by o b) ≡ true
away o b p q = rw (p, q) refl

pub awake_there : (s : Start) (h : List Entry) (i c : ℕ) → IsHistory s h →
    sleeps_below s.header.conditions s h i ≡ false → false ≡ has i (sleepers s h c)
awake_there s h i c past q = by (has i (sleepers s h c)) refl
  where
    by : (o : Bool) → has i (sleepers s h c) ≡ o → false ≡ o
    by true p = sym q ∙ (there s h (waits_by s h past) i c p).0
    by false p = refl

pub sleeps_where : (s : Start) (h : List Entry) (i c : ℕ) (x : LastSleep) → IsHistory s h →
    sleeps_below s.header.conditions s h i ≡ true →
    (is_away (phase s h i) ≡ true → sleep_of x ≡ last_sleep s h i) →
    eqb x.condition c ≡ has i (sleepers s h c)
sleeps_where s h i c x past t is = by (has i (sleepers s h c)) refl
  where
    saved : x.condition ≡ (last_sleep s h i).condition
    saved =
        ap (λ (w : Sleep). w.condition)
        (is (away (place_of i (line s h)) _ (asleep_out_of_line s h i (waits_by s h past).once t) t))

    by : (o : Bool) → has i (sleepers s h c) ≡ o → eqb x.condition c ≡ o
    by true p = eq-eqb x.condition c (saved ∙ (there s h (waits_by s h past) i c p).1)
    by false p =
        ne_eqb x.condition c (λ same.
        let at : (last_sleep s h i).condition ≡ c = sym saved ∙ same in
        let here = (sleeper_condition s h (waits_by s h past) i t).1 in
        cc (sym here ∙ ap (λ d. has i (sleepers s h d)) at ∙ p))

-- ---- which levels an entry of another seat leaves

pub there-coming_back : (i : ℕ) (xs : List ℕ) → is_placed (place_of i (map coming_back xs)) ≡ has i xs
there-coming_back i [] = refl
there-coming_back i (x ∷ xs) = grind (arith, there-coming_back i xs)

has_drop : (i n : ℕ) (xs : List ℕ) → has i (take n xs) ≡ false → has i (drop n xs) ≡ has i xs
has_drop i zero xs p = refl
has_drop i (suc n) [] p = refl
has_drop i (suc n) (x ∷ xs) p = grind (arith, has_drop i n xs)

has_without : (i j : ℕ) (xs : List ℕ) → eqb j i ≡ false → has i (without j xs) ≡ has i xs
has_without i j [] p = refl
has_without i j (x ∷ xs) p = grind (arith, nat_tests, has_without i j xs p)

has-append : (i : ℕ) (xs ys : List ℕ) → has i ys ≡ false → has i (xs ++ ys) ≡ has i xs
has-append i [] ys p = p
has-append i (x ∷ xs) ys p = ap (λ b. eqb x i || b) (has-append i xs ys p)

module _ (s : Start) (e : Entry) (h : List Entry) (i : ℕ) (ne : e.seat ≢ i) where
  arrives_not : (w : Word) → (is_signal w ≡ true → is_placed (place_of i (arrivals_by s w e h)) ≡ false) →
      is_placed (place_of i (arrivals_by s w e h)) ≡ false
  arrives_not word.Queued still = rw (ne_eqb e.seat i ne) refl
  arrives_not word.Lapse still = rw (ne_eqb e.seat i ne) refl
  arrives_not word.Signal still = still refl
  arrives_not word.SignalAll still = still refl
  arrives_not _ still = refl

  line_stays : (o : Option Arrival) → place_of i (line s h) ≡ o →
      is_placed (place_of i (arrivals_by s e.word e h)) ≡ false →
      is_placed (place_of i (line s (e ∷ h))) ≡ is_placed o
  line_stays None q p = ap is_placed (arrives_by s e h i ne q) ∙ p
  line_stays (Some a) q p = ap is_placed (stays_in_line s e h i a ne q)

  sleepers_stay : (w : Word) → is_placed (place_of i (arrivals_by s w e h)) ≡ false →
      has i (sleepers_after w e.seat e.n (sleepers s h e.at)) ≡ has i (sleepers s h e.at)
  sleepers_stay word.Await p = has-append i (sleepers s h e.at) (e.seat ∷ []) (rw (ne_eqb e.seat i ne) refl)
  sleepers_stay word.Signal p =
      has_drop i e.n (sleepers s h e.at) (sym (there-coming_back i (take e.n (sleepers s h e.at))) ∙ p)
  sleepers_stay word.SignalAll p = sym (sym (there-coming_back i (sleepers s h e.at)) ∙ p)
  sleepers_stay word.Lapse p = has_without i e.seat (sleepers s h e.at) (ne_eqb e.seat i ne)
  sleepers_stay _ p = refl

  asleep_stays : (c : ℕ) → is_placed (place_of i (arrivals_by s e.word e h)) ≡ false →
      has i (sleepers s (e ∷ h) c) ≡ has i (sleepers s h c)
  asleep_stays c p = grind (arith, nat_tests, sleepers_stay e.word p)

  -- one that a signal leaves out of the queue was not in it, and doesn't arrive there
  out_still : (o : Option Arrival) → place_of i (line s h) ≡ o →
      is_placed (place_of i (line s (e ∷ h))) ≡ false →
      is_placed (place_of i (arrivals_by s e.word e h)) ≡ false
  out_still None q p = ap is_placed (sym (arrives_by s e h i ne q)) ∙ p
  out_still (Some a) q p = cc (stays_in_line s e h i a ne q)

  pub others_stay : (is_signal e.word ≡ true → is_placed (place_of i (line s (e ∷ h))) ≡ false) →
      (kind : Kind) → level s (e ∷ h) i kind ≡ level s h i kind
  others_stay out Exclusive = held_other s e h i X ne
  others_stay out Shared = held_other s e h i S ne
  others_stay out InLine =
      ap one_if (line_stays (place_of i (line s h)) refl
      (arrives_not e.word (λ t. out_still (place_of i (line s h)) refl (out t))))
  others_stay out (Asleep c) =
      ap one_if (asleep_stays c (arrives_not e.word (λ t. out_still (place_of i (line s h)) refl (out t))))
