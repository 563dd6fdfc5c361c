-- Two starts, each with entries behind it, of which the definitions say the same: they say the same of
-- whatever comes next. Free permits count for a semaphore alone, and a last sleep for one who sleeps or comes
-- back.
use Rattle.std.proofs.Common.{◌≡◌, ℕ, zero, suc, ◌+◌, ◌-◌, ◌==◌, Bool, true, false, ◌&&◌, ◌||◌, not, cond, eqb, List, [], ◌∷◌, ◌++◌, map, take, length, Option, Some, None, Result, Ok, Err, refl, ap, ◌∙◌, sym, subst, ⊎_elim, arith, ℤ, eq-eqb}
use Rattle.std.specs.List.{filter, AllByRecursion}
use Rattle.std.proofs.lemmas.Bool.{or_right, not-false}
use Rattle.history.specs.Prelude.{Arrival, Entry, Mode, X, S, Word, Fault, Header, Object, Step, back_from, lapse_from, could, held_back, is_seat, limit, Counts, beyond, count, counted, counted_after, counts, free, free_after, held, holds_after, total, unheld, ends_call, same_mode, is_bad_amount, is_no_condition, is_wrong_mode, calls, arrivals_by, coming_back, first_mode, first_of, line, mode_of, place_of, named, named_by, ready, ready_by, is_lock, is_semaphore, opening_count, is_strict, is_away, Phase, Idle, InLine, Sleeping, phase, phase_by, suits, arrival_owes, holds_owe, owed, sleeper_owes, sleepers_owe, sum_of, has, last_sleep, sleep_after, sleepers, sleepers_after, sleeps_below, Sleep, Start, acquired, at_least_none, at_most_one, awaits, entry_for, gave, idle_entry, line_entry, phase_entry, plain, signals, tried, tried_fairly, asleep, seats_of, waiting}
use Rattle.history.specs.declared.entry.End.TheVariants as end
use Rattle.history.specs.declared.entry.Word.TheVariants as word
use Rattle.history.specs.declared.fault.Fault.TheVariants as fault
use Rattle.history.specs.declared.step.Step.TheVariants as step
use Rattle.history.proofs.Entering.{Known, KnownBy, in_line}
use Rattle.history.proofs.LineLemmas.{line_after, stays}
use Rattle.history.proofs.Lists.{each-as}
use Rattle.history.proofs.OneWait.{all_come, last_sleep_own, placed, take_has}
use Rattle.history.proofs.SleepLemmas.{sleeping_parts, sleeps_at, slept_before}
use Rattle.history.proofs.Times.{each-append, each-filter, place_once}

-- a start of an object
abbrev pub on : Header → Start → Start
on k s = record s { header = k }

-- Whoever comes back in a line has the same last sleep.
abbrev pub ReturnAlike : Header → Start → Start → List Entry → List Entry → Arrival → Type 0
ReturnAlike k s t g h a = a.back ≡ true → last_sleep (on k s) g a.seat ≡ last_sleep (on k t) h a.seat

pub record Alike (k : Header) (s t : Start) (g h : List Entry) : Type 0 where
  pub holds : held (on k s) g ≡ held (on k t) h
  pub released : unheld (on k s) g ≡ unheld (on k t) h
  pub permits : is_semaphore k.object ≡ true → free (on k s) g ≡ free (on k t) h
  pub left : count (on k s) g ≡ count (on k t) h
  pub stand : line (on k s) g ≡ line (on k t) h
  pub asleep : sleepers (on k s) g ≡ sleepers (on k t) h
  pub ended : calls (on k s) g ≡ calls (on k t) h
  pub sleeping : (c i : ℕ) → has i (sleepers (on k s) g c) ≡ true →
      last_sleep (on k s) g i ≡ last_sleep (on k t) h i
  pub returning : AllByRecursion (ReturnAlike k s t g h) (line (on k s) g)

-- What could be taken, the limit, who is held back and what a give makes: free permits count for a semaphore.
abbrev pub numbers : Object → ℕ → (ℕ → Mode → ℕ) → ℤ → ℕ → Counts
numbers o n had f c = record { object = o; seats = n; held = had; free = f; count = c }

module _ (n : ℕ) (had : ℕ → Mode → ℕ) (c : ℕ) (f f' : ℤ) (first : Option Mode) (i : ℕ) where
  could_alike : (o : Object) → (is_semaphore o ≡ true → f ≡ f') → (m : Mode) (x : ℕ) →
      could (numbers o n had f c) i m x ≡ could (numbers o n had f' c) i m x
  could_alike o same m x = grind arith

  limit_alike : (o : Object) (m : Mode) →
      limit (numbers o n had f c) i m ≡ limit (numbers o n had f' c) i m
  limit_alike o m = grind arith

  back_alike : (o : Object) (m : Mode) →
      held_back (numbers o n had f c) first i m ≡ held_back (numbers o n had f' c) first i m
  back_alike o m = grind arith

  gave_alike : (o : Object) → (is_semaphore o ≡ true → f ≡ f') → (m : Mode) (x : ℕ) →
      gave o (numbers o n had f c) i m x ≡ gave o (numbers o n had f' c) i m x
  gave_alike o same m x = grind arith

-- the entry of an idle seat's step, by what it is made of
abbrev made : Object → Counts → Option Mode → (ℕ → ℕ) → ℕ → Step → Entry
made o k first asleep i (step.Acquire m n) = plain i (acquired k first i m n) m n
made o k first asleep i (step.Try m n) = plain i (tried k first i m n) m n
made o k first asleep i (step.TryFair m n) = plain i (tried_fairly k first i m n) m n
made o k first asleep i (step.EntryInterrupt m n) = plain i (word.Refused fault.Interrupted) m n
made o k first asleep i (step.Give m n) = plain i (gave o k i m n) m n
made o k first asleep i (step.Await c) = awaits k i c
made o k first asleep i (step.Signal c) = signals k word.Signal (at_most_one (asleep c)) i c
made o k first asleep i (step.SignalAll c) = signals k word.SignalAll (asleep c) i c
made o k first asleep i step.Drain = plain i word.Drained S (at_least_none k.free)
made o k first asleep i _ = plain i word.Missed X 1

made_is : (s : Start) (h : List Entry) (i : ℕ) (x : Step) →
    idle_entry s h i x
    ≡ made s.header.object (counts s h) (first_mode s h) (λ c. length (sleepers s h c)) i x
made_is s h i step.Look = refl
made_is s h i _ = refl

module _ (o : Object) (n : ℕ) (had : ℕ → Mode → ℕ) (c : ℕ) (f f' : ℤ) (first : Option Mode) (asleep : ℕ → ℕ)
    (i : ℕ) (same : is_semaphore o ≡ true → f ≡ f') where
  could_at : (m : Mode) (x : ℕ) → could (numbers o n had f c) i m x ≡ could (numbers o n had f' c) i m x
  could_at = could_alike n had c f f' first i o same

  limit_at : (m : Mode) → limit (numbers o n had f c) i m ≡ limit (numbers o n had f' c) i m
  limit_at = limit_alike n had c f f' first i o

  back_at : (m : Mode) →
      held_back (numbers o n had f c) first i m ≡ held_back (numbers o n had f' c) first i m
  back_at = back_alike n had c f f' first i o

  made_alike : (x : Step) → is_wrong_mode o x ≡ false →
      made o (numbers o n had f c) first asleep i x ≡ made o (numbers o n had f' c) first asleep i x
  made_alike (step.Acquire m x) right =
      λ j. plain i (cond (back_at m j) word.Queued
      (cond (limit_at m j) (word.Refused fault.TooManyHolds)
      (cond (could_at m x j) word.Got word.Queued))) m x
  made_alike (step.Try m x) right =
      λ j. plain i (cond (is_strict o && back_at m j) word.Missed
      (cond (limit_at m j) (word.Refused fault.TooManyHolds)
      (cond (could_at m x j) word.TryGot word.Missed))) m x
  made_alike (step.TryFair m x) right =
      λ j. plain i (cond (back_at m j) word.Missed
      (cond (limit_at m j) (word.Refused fault.TooManyHolds)
      (cond (could_at m x j) word.Got word.Missed))) m x
  made_alike (step.Give m x) right =
      ap (λ w. plain i w m x) (gave_alike n had c f f' first i o same m x)
  made_alike step.Drain right =
      ap (λ z. plain i word.Drained S (at_least_none z)) (same (not-false (is_semaphore o) right))
  made_alike _ right = refl

-- What a step makes, and whom an entry names.
either_alike : {A : Type 0} (b : Bool) (x x' y y' : A) → (b ≡ true → x ≡ x') → (b ≡ false → y ≡ y') →
    cond b x y ≡ cond b x' y'
either_alike true x x' y y' p q = p refl
either_alike false x x' y y' p q = q refl

module _ (k : Header) (s t : Start) (g h : List Entry) (a : Alike k s t g h) where
  idle_alike : (i : ℕ) (x : Step) → is_wrong_mode k.object x ≡ false →
      idle_entry (on k s) g i x ≡ idle_entry (on k t) h i x
  idle_alike i x right =
      made_is (on k s) g i x
      ∙ (λ j. made k.object (numbers k.object k.seats (a.holds j) (free (on k s) g) (a.left j))
      (mode_of (first_of (a.stand j))) (λ c. length (a.asleep j c)) i x)
      ∙ made_alike k.object k.seats (held (on k t) h) (count (on k t) h) (free (on k s) g) (free (on k t) h)
      (first_mode (on k t) h) (λ c. length (sleepers (on k t) h c)) i a.permits x right
      ∙ sym (made_is (on k t) h i x)

  sleeps_alike : (c i : ℕ) → sleeps_below c (on k s) g i ≡ sleeps_below c (on k t) h i
  sleeps_alike zero i = refl
  sleeps_alike (suc c) i = λ j. has i (a.asleep j c) || sleeps_alike c i j

  pub phase_alike : (i : ℕ) → phase (on k s) g i ≡ phase (on k t) h i
  phase_alike i = λ j. phase_by (place_of i (a.stand j)) (sleeps_alike k.conditions i j)

  pub ready_alike : ready (on k s) g ≡ ready (on k t) h
  ready_alike =
      (λ j. ready_by (numbers k.object k.seats (a.holds j) (free (on k s) g) (a.left j))
      (first_of (a.stand j)))
      ∙ by (first_of (line (on k t) h))
    where
      by : (first : Option Arrival) →
          ready_by (numbers k.object k.seats (held (on k t) h) (free (on k s) g) (count (on k t) h)) first
          ≡ ready_by (counts (on k t) h) first
      by None = refl
      by (Some b) =
          ap (λ x. cond x (Some b.seat) None)
          (could_alike k.seats (held (on k t) h) (count (on k t) h) (free (on k s) g) (free (on k t) h) None
          b.seat k.object a.permits b.mode b.n)

  -- the last sleep of one who comes back, and of one who sleeps
  return_alike : (i : ℕ) (b : Arrival) → place_of i (line (on k s) g) ≡ Some b → b.back ≡ true →
      last_sleep (on k s) g i ≡ last_sleep (on k t) h i
  return_alike i b stands r =
      subst (λ n. last_sleep (on k s) g n ≡ last_sleep (on k t) h n)
      (place_once i (line (on k s) g) b stands).0
      (placed (ReturnAlike k s t g h) i (line (on k s) g) b a.returning stands r)

  sleep_alike : (i : ℕ) → phase (on k s) g i ≡ Sleeping → last_sleep (on k s) g i ≡ last_sleep (on k t) h i
  sleep_alike i q =
      let parts = sleeping_parts (place_of i (line (on k s) g)) (sleeps_below k.conditions (on k s) g i) q in
      let r = sleeps_at k.conditions (on k s) g i parts.1 in
      a.sleeping r.0 i r.2

  made_in_phase : (i : ℕ) (x : Step) (p : Phase) → phase (on k s) g i ≡ p → is_wrong_mode k.object x ≡ false →
      phase_entry (on k s) g i x p ≡ phase_entry (on k t) h i x p
  made_in_phase i x Idle q right = ap (λ e. Some e) (idle_alike i x right)
  made_in_phase i x (InLine b) q right =
      (λ j. line_entry (on k s) g (is_seat (ready_alike j) i) i b x)
      ∙ either_alike b.back _ _ _ _
      (λ r. ap (λ (w : Sleep). cond (is_seat (ready (on k t) h) i) (Some (back_from i w)) None)
      (return_alike i b (in_line _ _ b q) r))
      (λ f. refl)
  made_in_phase i step.Expire Sleeping q right =
      ap (λ (w : Sleep). Some (lapse_from i w end.Timeout)) (sleep_alike i q)
  made_in_phase i step.Interrupt Sleeping q right =
      ap (λ (w : Sleep). Some (lapse_from i w end.Interrupt)) (sleep_alike i q)
  made_in_phase i _ Sleeping q right = refl

  pub entry_alike : (i : ℕ) (x : Step) → entry_for (on k s) g i x ≡ entry_for (on k t) h i x
  entry_alike i x =
      either_alike (is_wrong_mode k.object x) _ _ _ _ (λ w. refl)
      (λ w. (λ j. in_phase (phase_alike i j) (phase_entry (on k s) g i x (phase_alike i j)))
      ∙ ap (in_phase (phase (on k t) h i)) (made_in_phase i x (phase (on k t) h i) (phase_alike i) w))
    where
      in_phase : Phase → Option Entry → Result (Option Entry) Fault
      in_phase p e =
          cond (is_no_condition k x) (Err fault.NoSuchCondition)
          (cond (is_bad_amount k.object x) (Err fault.BadAmount)
          (cond (not (suits p x)) (Err fault.OutOfPhase) (Ok e)))

-- What they say stays alike behind an entry that the first allows.
arrivals_alike : (k : Header) (s t : Start) (g h : List Entry) → Alike k s t g h → (e : Entry) (w : Word) →
    arrivals_by (on k s) w e g ≡ arrivals_by (on k t) w e h
arrivals_alike k s t g h a e word.Signal = λ j. map coming_back (take e.n (a.asleep j e.at))
arrivals_alike k s t g h a e word.SignalAll = λ j. map coming_back (a.asleep j e.at)
arrivals_alike k s t g h a e _ = refl

line_alike : (k : Header) (s t : Start) (g h : List Entry) → Alike k s t g h → (e : Entry) →
    line (on k s) (e ∷ g) ≡ line (on k t) (e ∷ h)
line_alike k s t g h a e =
    line_after (on k s) e g
    ∙ (λ j. filter (stays e.word e.seat) (a.stand j) ++ arrivals_alike k s t g h a e e.word j)
    ∙ sym (line_after (on k t) e h)

counted_alike : (w : Word) (n x y : ℕ) → n - x ≡ n - y → n - counted_after w x ≡ n - counted_after w y
counted_alike w n x y same = grind arith

module _ (k : Header) (s t : Start) (g h : List Entry) (a : Alike k s t g h) (e : Entry) where
  -- a last sleep that was the same
  sleep_kept : (i : ℕ) → last_sleep (on k s) g i ≡ last_sleep (on k t) h i →
      last_sleep (on k s) (e ∷ g) i ≡ last_sleep (on k t) (e ∷ h) i
  sleep_kept i same = ap (λ w. cond (e.seat == i) (sleep_after e.word e w) w) same

  -- the sleep that an await begins
  sleep_begun : e.word ≡ word.Await → last_sleep (on k s) (e ∷ g) e.seat ≡ last_sleep (on k t) (e ∷ h) e.seat
  sleep_begun q =
      last_sleep_own (on k s) e g
      ∙ ap (λ w. sleep_after w e (last_sleep (on k s) g e.seat)) q
      ∙ ap (λ w. sleep_after w e (last_sleep (on k t) h e.seat)) (sym q)
      ∙ sym (last_sleep_own (on k t) e h)

  sleeping_next : (c i : ℕ) → has i (sleepers (on k s) (e ∷ g) c) ≡ true →
      last_sleep (on k s) (e ∷ g) i ≡ last_sleep (on k t) (e ∷ h) i
  sleeping_next c i here =
      ⊎_elim (λ before. sleep_kept i (a.sleeping c i before))
      (λ new. subst (λ n. last_sleep (on k s) (e ∷ g) n ≡ last_sleep (on k t) (e ∷ h) n) new.2
      (sleep_begun new.0))
      (slept_before (on k s) e g c i here)

  returns_kept : (b : Arrival) → ReturnAlike k s t g h b → ReturnAlike k s t (e ∷ g) (e ∷ h) b
  returns_kept b same r = sleep_kept b.seat (same r)

  returning_by : (w : Word) → KnownBy (on k s) g e w →
      AllByRecursion (ReturnAlike k s t (e ∷ g) (e ∷ h)) (arrivals_by (on k s) w e g)
  returning_by word.Queued known = (λ r. cc, tt)
  returning_by word.Signal known =
      all_come (ReturnAlike k s t (e ∷ g) (e ∷ h)) (take e.n (sleepers (on k s) g e.at))
      (λ i here r. sleep_kept i (a.sleeping e.at i (take_has e.n i (sleepers (on k s) g e.at) here)))
  returning_by word.SignalAll known =
      all_come (ReturnAlike k s t (e ∷ g) (e ∷ h)) (sleepers (on k s) g e.at)
      (λ i here r. sleep_kept i (a.sleeping e.at i here))
  returning_by word.Lapse known =
      let parts = sleeping_parts (place_of e.seat (line (on k s) g))
      (sleeps_below k.conditions (on k s) g e.seat)
      known.0 in
      let r = sleeps_at k.conditions (on k s) g e.seat parts.1 in
      (λ b. sleep_kept e.seat (a.sleeping r.0 e.seat r.2), tt)
  returning_by _ known = tt

  returning_next : Known (on k s) g e →
      AllByRecursion (ReturnAlike k s t (e ∷ g) (e ∷ h)) (line (on k s) (e ∷ g))
  returning_next known =
      subst (AllByRecursion (ReturnAlike k s t (e ∷ g) (e ∷ h))) (sym (line_after (on k s) e g))
      (each-append (ReturnAlike k s t (e ∷ g) (e ∷ h)) _ _
      (each-filter (ReturnAlike k s t (e ∷ g) (e ∷ h)) (stays e.word e.seat) (line (on k s) g)
      (each-as (ReturnAlike k s t g h) (ReturnAlike k s t (e ∷ g) (e ∷ h)) (line (on k s) g) returns_kept
      a.returning))
      (returning_by e.word known))

  pub alike_next : Known (on k s) g e → Alike k s t (e ∷ g) (e ∷ h)
  alike_next known =
      record {
        holds = λ j i m. cond ((e.seat == i) && same_mode e.mode m)
            (holds_after k.object e.word e.n (a.holds j i m)) (a.holds j i m);
        released = λ j. a.released j
            + cond (is_semaphore k.object) (beyond e.word e.n (a.holds j e.seat e.mode)) 0;
        permits = λ r. ap (free_after e.word e.n) (a.permits r);
        left = counted_alike e.word (opening_count k.object) (counted (on k s) g) (counted (on k t) h) a.left;
        stand = line_alike k s t g h a e;
        asleep = λ j c. cond (e.at == c) (sleepers_after e.word e.seat e.n (a.asleep j c)) (a.asleep j c);
        ended = ap (λ n. n + cond (ends_call e.word) 1 0) a.ended;
        sleeping = sleeping_next;
        returning = returning_next known;
      }

pub named_alike : (k : Header) (s t : Start) (g h : List Entry) → Alike k s t g h → (e : Entry) →
    Alike k s t (e ∷ g) (e ∷ h) → named (on k s) g e ≡ named (on k t) h e
named_alike k s t g h a e b =
    λ j. named_by (ready_alike k s t g h a j) (ready_alike k s t (e ∷ g) (e ∷ h) b j) e.seat

-- What is owed.
sum_alike : {A : Type 0} (f g : A → ℕ) (xs : List A) → AllByRecursion (λ x. f x ≡ g x) xs →
    sum_of f xs ≡ sum_of g xs
sum_alike f g [] same = refl
sum_alike f g (x ∷ xs) same = λ j. same.0 j + sum_alike f g xs same.1 j

each_of : (P : ℕ → Type 0) (xs : List ℕ) → ((i : ℕ) → has i xs ≡ true → P i) → AllByRecursion P xs
each_of P [] well = tt
each_of P (x ∷ xs) well = (
  well x (ap (λ t. t || has x xs) (eq-eqb x x refl)),
  each_of P xs (λ i t. well i (or_right (eqb x i) (has i xs) t)),
)

module _ (k : Header) (s t : Start) (g h : List Entry) (a : Alike k s t g h) where
  sleepers_owe_alike : (c : ℕ) → sleepers_owe c (on k s) g ≡ sleepers_owe c (on k t) h
  sleepers_owe_alike zero = refl
  sleepers_owe_alike (suc c) =
      λ j. sleepers_owe_alike c j + here j
    where
      here : sum_of (sleeper_owes (on k s) g) (sleepers (on k s) g c)
          ≡ sum_of (sleeper_owes (on k t) h) (sleepers (on k t) h c)
      here =
          sum_alike (sleeper_owes (on k s) g) (sleeper_owes (on k t) h) (sleepers (on k s) g c)
          (each_of (λ i. sleeper_owes (on k s) g i ≡ sleeper_owes (on k t) h i) (sleepers (on k s) g c)
          (λ i there. ap (λ (w : Sleep). w.holds + 2) (a.sleeping c i there)))
          ∙ (λ j. sum_of (sleeper_owes (on k t) h) (a.asleep j c))

  arrival_alike : (b : Arrival) → ReturnAlike k s t g h b →
      arrival_owes (on k s) g b ≡ arrival_owes (on k t) h b
  arrival_alike b same =
      either_alike b.back _ _ _ _ (λ r. ap (λ (w : Sleep). w.holds + 1) (same r)) (λ f. refl)

  pub owed_alike : owed (on k s) g ≡ owed (on k t) h
  owed_alike = λ j. holding j + waiting j + sleepers_owe_alike k.conditions j
    where
      holding : holds_owe (on k s) g ≡ holds_owe (on k t) h
      holding = λ j. cond (is_lock k.object) (total k.seats (λ i. a.holds j i X + a.holds j i S)) 0

      waiting : sum_of (arrival_owes (on k s) g) (line (on k s) g)
          ≡ sum_of (arrival_owes (on k t) h) (line (on k t) h)
      waiting =
          sum_alike (arrival_owes (on k s) g) (arrival_owes (on k t) h) (line (on k s) g)
          (each-as (ReturnAlike k s t g h) (λ b. arrival_owes (on k s) g b ≡ arrival_owes (on k t) h b)
          (line (on k s) g) arrival_alike a.returning)
          ∙ ap (sum_of (arrival_owes (on k t) h)) a.stand

  -- the last sleep of one who is away
  pub away_alike : (i : ℕ) → is_away (phase (on k s) g i) ≡ true →
      last_sleep (on k s) g i ≡ last_sleep (on k t) h i
  away_alike i away = by (phase (on k s) g i) refl away
    where
      by : (p : Phase) → phase (on k s) g i ≡ p → is_away p ≡ true →
          last_sleep (on k s) g i ≡ last_sleep (on k t) h i
      by Idle q r = absurd (cc)
      by (InLine b) q r = return_alike k s t g h a i b (in_line _ _ b q) r
      by Sleeping q r = sleep_alike k s t g h a i q

-- Who waits.
asleep_alike : (k : Header) (s t : Start) (g h : List Entry) → Alike k s t g h → (c : ℕ) →
    asleep c (on k s) g ≡ asleep c (on k t) h
asleep_alike k s t g h a zero = refl
asleep_alike k s t g h a (suc c) = λ j. asleep_alike k s t g h a c j ++ a.asleep j c

pub waiting_alike : (k : Header) (s t : Start) (g h : List Entry) → Alike k s t g h →
    waiting (on k s) g ≡ waiting (on k t) h
waiting_alike k s t g h a = λ j. seats_of (a.stand j) ++ asleep_alike k s t g h a k.conditions j
