-- The fold of legal entries on a good base is a good base.
use Rattle.std.proofs.Common.{◌≡◌, ◌≢◌, inl, inr, ⊎_elim, ℕ, ◌+◌, ◌*◌, ◌<◌, ◌≤◌, Bool, true, false, ◌&&◌, ◌||◌, cond, eqb, List, [], ◌∷◌, map, take, length, Some, Ok, refl, ap, ◌∙◌, sym, subst, arith, ℤ, pos, ◌≤ℤ◌, FitsSigned, eq-eqb}
use Rattle.std.specs.List.{AllByRecursion}
use Rattle.std.specs.Int.{w32}
use Rattle.std.proofs.lemmas.Bool.{cases_Bool, or_right}
use Rattle.std.proofs.lemmas.Int.{ints}
use Rattle.std.proofs.lemmas.List.{get_or_past}
use Rattle.history.specs.Prelude.{MOST_AMOUNT, MOST_FOLDED, Arrival, Sleeper, LinePlace, Entry, Mode, X, S, Word, Object, Semaphore, Latch, Step, Base, based, each_below, folded, seat_after, sleeper_after, sleepers_of, standing_after, stands_from, count, free, held, holds_after, total, unheld, same_mode, is_bad_number, lacks_mode, AreCounted, AreHeld, ArePermits, GaveUp, IsGood, IsModest, SleepsWell, StandsWell, IsInRange, AreSeated, IsLegal, calls, arrivals_by, coming_back, line, created, is_latch, is_lock, is_semaphore, opening_count, IsOwned, most_exclusive, most_shared, CanFold, has, last_sleep, sleepers, Sleep, Start, awake, entry_for, times}
use Rattle.history.specs.declared.entry.Word.TheVariants as word
use Rattle.history.proofs.Alike.{Alike, waiting_alike}
use Rattle.history.proofs.Changes.{counts_nothing, either_way, held_same}
use Rattle.history.proofs.Entering.{Known, KnownBy, known}
use Rattle.history.proofs.Folding.{fold_alike, get_or-each, length-each, none_beyond}
use Rattle.history.proofs.GoodBases.{good_owned, good_waits}
use Rattle.history.proofs.LineLemmas.{line_after, line_at_first}
use Rattle.history.proofs.Lists.{calls-ended, ended_calls_le}
use Rattle.history.proofs.OneOwner.{Owned, cases_below, is_owned, owned_on}
use Rattle.history.proofs.OneWait.{Saved, SavedIfBack, Sleeps, Waits, acts, all_come, line_stays, placed, waits_from}
use Rattle.history.proofs.Permits.{IsLow, created_fits, free_fits_on, held_grows, low_on, no_exclusive, unheld_grows, unheld_none, fits_at_most}
use Rattle.history.proofs.Queueing.{joining_owns_nothing}
use Rattle.history.proofs.SleepLemmas.{held_other}
use Rattle.history.proofs.Times.{each-append}
use Rattle.history.proofs.WhoWaits.{LineSeated, line_seated_next}

-- nobody holds anything of a latch
latch_keeps : (o : Object) (w : Word) (n : ℕ) → is_latch o ≡ true → (w ≡ word.Drained → ⊥) →
    (w ≡ word.Back → ⊥) →
    holds_after o w n 0 ≡ 0
latch_keeps o w n t d k = grind arith

latch_lacks : (o : Object) → is_latch o ≡ true → (is_lock o ≡ false) × (is_semaphore o ≡ false)
latch_lacks o t = grind arith

pub latch_holds : (s : Start) (h : List Entry) → is_latch s.header.object ≡ true → Waits s [] → IsLegal s h →
    ((i : ℕ) (m : Mode) → held s [] i m ≡ 0) → (i : ℕ) (m : Mode) → held s h i m ≡ 0
latch_holds s [] t v legal none i m = none i m
latch_holds s (e ∷ h) t v legal none i m =
    ap (λ x. cond (eqb e.seat i && same_mode e.mode m) (holds_after s.header.object e.word e.n x) x)
    (latch_holds s h t v legal.1 none i m)
    ∙ either_way (eqb e.seat i && same_mode e.mode m) _ 0
    (latch_keeps s.header.object e.word e.n t not_drained not_back)
  where
    k : Known s h e
    k = known s h legal.0.0 e legal.0.1

    lacks : (is_lock s.header.object ≡ false) × (is_semaphore s.header.object ≡ false)
    lacks = latch_lacks s.header.object t

    not_drained : e.word ≡ word.Drained → ⊥
    not_drained w =
        let d : KnownBy s h e word.Drained = subst (KnownBy s h e) w k in
        let f = lacks.1 in
        let y = d.1 in
        cc (y, f)

    not_back : e.word ≡ word.Back → ⊥
    not_back w =
        let d : KnownBy s h e word.Back = subst (KnownBy s h e) w k in
        let f = lacks.0 in
        let y = (placed (SavedIfBack s h) e.seat (line s h) d.0
        (waits_from s h v legal.1).line d.1 d.2).saved.lock in
        cc (y, f)

-- Who stands in line to acquire owns nothing, and asks for what the object has.
abbrev pub Queues : Start → List Entry → Arrival → Type 0
Queues s h a =
    a.back ≡ false →
    (lacks_mode s.header.object a.mode ≡ false) × (is_bad_number s.header.object a.n ≡ false)
    × (held s h a.seat X ≡ 0)

queues_other : (s : Start) (e : Entry) (h : List Entry) (a : Arrival) → e.seat ≢ a.seat → Queues s h a →
    Queues s (e ∷ h) a
queues_other s e h a ne w r = let q = w r in (q.0, q.1, held_other s e h a.seat X ne ∙ q.2)

back_queues : (s : Start) (h : List Entry) (xs : List ℕ) → AllByRecursion (Queues s h) (map coming_back xs)
back_queues s h xs = all_come (Queues s h) xs (λ i t r. cc)

queues_next : (s : Start) (h : List Entry) (e : Entry) → Known s h e →
    (KnownBy s h e word.Queued → e.word ≡ word.Queued → held s h e.seat X ≡ 0) →
    AllByRecursion (Queues s h) (line s h) → AllByRecursion (Queues s (e ∷ h)) (line s (e ∷ h))
queues_next s h e k owns all =
    subst (AllByRecursion (Queues s (e ∷ h))) (sym (line_after s e h))
    (each-append (Queues s (e ∷ h)) _ _
    (line_stays (Queues s h) (Queues s (e ∷ h)) s h e (acts s h e k) (queues_other s e h) all)
    (by e.word refl k))
  where
    by : (w : Word) → e.word ≡ w → KnownBy s h e w → AllByRecursion (Queues s (e ∷ h)) (arrivals_by s w e h)
    by word.Queued w k = (λ r. (k.mode, k.amount, held_same s e h e.seat X (ap counts_nothing w) ∙ owns k w), tt)
    by word.Lapse w k = back_queues s (e ∷ h) (e.seat ∷ [])
    by word.Signal w k = back_queues s (e ∷ h) (take e.n (sleepers s h e.at))
    by word.SignalAll w k = back_queues s (e ∷ h) (sleepers s h e.at)
    by _ w k = tt

-- What is known of a base and legal entries behind it.
module _ (b : Base) (good : IsGood b) where
  start : Waits (based b) []
  start = good_waits b good

  owned_at_first : is_lock b.header.object ≡ true → Owned (based b) []
  owned_at_first lock =
      let v = good_owned b good lock in
      record {
        one = v.one;
        alone = v.alone;
        shared = v.shared;
        seats = λ i m l. none_beyond b [] good.seats tt i l m;
      }

  pub owned_behind : (h : List Entry) → is_lock b.header.object ≡ true → IsLegal (based b) h →
      AreSeated (based b) h → IsOwned (based b) h
  owned_behind h lock legal s =
      is_owned (based b) h lock (waits_from (based b) h start legal)
      (owned_on (based b) h lock start (owned_at_first lock) legal s)

  -- nobody but a lock's owner holds exclusively
  owns_nothing : (h : List Entry) → IsLegal (based b) h → (o : Object) → b.header.object ≡ o →
      AreHeld o b → is_lock o ≡ false → (i : ℕ) → held (based b) h i X ≡ 0
  owns_nothing h legal (Semaphore p c) q v f i =
      no_exclusive (based b) h (ap is_semaphore q) start legal i ∙ v.exclusive i
  owns_nothing h legal (Latch c) q v f i = latch_holds (based b) h (ap is_latch q) start legal v i X
  owns_nothing h legal _ q v f i = absurd (cc)

  queued_owns : (h : List Entry) (e : Entry) (x : Step) → IsLegal (based b) h → AreSeated (based b) h →
      e.seat < b.header.seats → entry_for (based b) h e.seat x ≡ Ok (Some e) →
      KnownBy (based b) h e word.Queued → e.word ≡ word.Queued → held (based b) h e.seat X ≡ 0
  queued_owns h e x legal s l made k w =
      ⊎_elim (λ q. joining_owns_nothing (based b) h x e (owned_behind h q legal s) q l k.idle made w)
      (λ q. owns_nothing h legal b.header.object refl good.held q e.seat) (cases_Bool (is_lock b.header.object))

  queues_at_first : (q : List LinePlace) → AllByRecursion (StandsWell b) q →
      AllByRecursion (Queues (based b) []) (map (λ p. p.who) q)
  queues_at_first [] all = tt
  queues_at_first (p ∷ q) all = (
    λ r. ⊎_elim (λ asks. (asks.1.mode, asks.1.amount, asks.1.owns))
        (λ comes. let t = comes.0 in absurd (cc (r, t)))
        all.0,
    queues_at_first q all.1,
  )

  pub queues : (h : List Entry) → IsLegal (based b) h → AreSeated (based b) h →
      AllByRecursion (Queues (based b) h) (line (based b) h)
  queues [] legal s =
      subst (AllByRecursion (Queues (based b) [])) (sym (line_at_first (based b)))
      (queues_at_first b.line good.line)
  queues (e ∷ h) legal s =
      queues_next (based b) h e (known (based b) h legal.0.0 e legal.0.1)
      (queued_owns h e legal.0.0 legal.1 s.1 s.0 legal.0.1) (queues h legal.1 s.1)

  seated_at_first : (q : List LinePlace) → AllByRecursion (StandsWell b) q →
      LineSeated b.header.seats (map (λ p. p.who) q)
  seated_at_first [] all = tt
  seated_at_first (p ∷ q) all = (
    ⊎_elim (λ asks. asks.1.seat) (λ comes. comes.1.gave.seat) all.0,
    seated_at_first q all.1,
  )

  pub line_seated_on : (h : List Entry) → IsLegal (based b) h → AreSeated (based b) h →
      LineSeated b.header.seats (line (based b) h)
  line_seated_on [] legal s =
      subst (LineSeated b.header.seats) (sym (line_at_first (based b))) (seated_at_first b.line good.line)
  line_seated_on (e ∷ h) legal s =
      line_seated_next (based b) h e (waits_from (based b) h start legal.1)
      (known (based b) h legal.0.0 e legal.0.1) s.0 (line_seated_on h legal.1 s.1)

-- free permits are numbers of 32 bits
first_fits : (b : Base) → IsInRange b.header → (o : Object) → b.header.object ≡ o → AreHeld o b →
    is_semaphore o ≡ true →
    FitsSigned w32 (free (based b) [])
first_fits b range (Semaphore p c) q v t =
    by c (free (based b) []) (subst (FitsSigned w32) (ap created q) (created_fits b.header range
    (ap is_semaphore q))) v.lowest v.highest
  where
    by : (c f : ℤ) → FitsSigned w32 c → IsLow c f → f ≤ℤ pos MOST_AMOUNT → FitsSigned w32 f
    by c f fits (inl low) high = omega (arith, ints)
    by c f fits (inr low) high = omega (arith, ints)
first_fits b range _ q v t = absurd (cc)

pub free_fits_base : (b : Base) (h : List Entry) → IsInRange b.header → CanFold b h →
    is_semaphore b.header.object ≡ true → FitsSigned w32 (free (based b) h)
free_fits_base b h range can t =
    free_fits_on (based b) h t (good_waits b can.good) (first_fits b range b.header.object refl
    can.good.held t)
    can.legal

-- the fold, rule by rule
module _ (b : Base) (g : List Entry) (range : IsInRange b.header) (can : CanFold b g)
    (few : b.entries + length g ≤ MOST_FOLDED) (modest : IsModest b) where
  waits : Waits (based b) g
  waits = waits_from (based b) g (good_waits b can.good) can.legal

  same : Alike b.header (based b) (based (folded b g)) g []
  same = fold_alike b g can.good can.legal can.seated

  held_at : (i : ℕ) (m : Mode) → held (based (folded b g)) [] i m ≡ held (based b) g i m
  held_at i m = λ j. sym same.holds j i m

  owned_fold : is_lock b.header.object ≡ true → IsOwned (based (folded b g)) []
  owned_fold lock = of (owned_behind b can.good g lock can.legal can.seated) same.holds
    where
      of : IsOwned (based b) g → held (based b) g ≡ held (based (folded b g)) [] →
          IsOwned (based (folded b g)) []
      of w q =
          record {
            one = subst (λ f. (i j : ℕ) → 0 < f i X → 0 < f j X → i ≡ j) q w.one;
            alone = subst (λ f. (i j : ℕ) → 0 < f i X → 0 < f j S → i ≡ j) q w.alone;
            exclusive = subst (λ f. (i : ℕ) → f i X ≤ most_exclusive b.header.object) q w.exclusive;
            shared = subst (λ f. total b.header.seats (λ i. f i S) ≤ most_shared b.header.object) q w.shared;
          }

  fits_first : is_semaphore b.header.object ≡ true → FitsSigned w32 (free (based b) [])
  fits_first t = first_fits b range b.header.object refl can.good.held t

  shared_few : is_semaphore b.header.object ≡ true → (i : ℕ) →
      held (based (folded b g)) [] i S ≤ MOST_AMOUNT * (b.entries + length g)
  shared_few t i =
      omega (arith, held_grows (based b) g t (good_waits b can.good) (fits_first t) can.legal i S, (modest t).1 i, held_at i S)

  unheld_few : is_semaphore b.header.object ≡ true →
      unheld (based b) g ≤ MOST_AMOUNT * (b.entries + length g)
  unheld_few t = omega (arith, unheld_grows (based b) g can.legal, (modest t).0)

  permits_fold : (p : ℤ) → is_semaphore b.header.object ≡ true → ArePermits p b → ArePermits p (folded b g)
  permits_fold c t v =
      record {
        exclusive = λ i.
            held_at i X ∙ no_exclusive (based b) g t (good_waits b can.good) can.legal i ∙ v.exclusive i;
        shared = λ i. (let l = shared_few t i in omega (arith, l, few));
        lowest = subst (IsLow c) (same.permits t)
            (low_on (based b) c g t (good_waits b can.good) v.lowest can.legal);
        highest = fits_at_most (free (based (folded b g)) [])
            (subst (FitsSigned w32) (same.permits t)
            (free_fits_on (based b) g t (good_waits b can.good) (fits_first t) can.legal));
      }

  held_fold : (o : Object) → b.header.object ≡ o → AreHeld o b → AreHeld o (folded b g)
  held_fold (Semaphore p c) q v = permits_fold c (ap is_semaphore q) v
  held_fold (Latch c) q v =
      λ i m. held_at i m ∙ latch_holds (based b) g (ap is_latch q) (good_waits b can.good) can.legal v i m
  held_fold _ q v = owned_fold (ap is_lock q)

  no_unheld : (o : Object) → b.header.object ≡ o → is_semaphore o ≡ false → b.unheld ≡ 0 →
      unheld (based b) g ≡ 0
  no_unheld o q f z = unheld_none (based b) g (ap is_semaphore q ∙ f) ∙ z

  few_left : (o : Object) → b.header.object ≡ o → count (based b) g ≤ opening_count o
  few_left o q = omega (arith, ap opening_count q)

  counted_fold : (o : Object) → b.header.object ≡ o → AreCounted o b → AreCounted o (folded b g)
  counted_fold (Semaphore p c) q v =
      (omega (arith, unheld_few (ap is_semaphore q), few), omega (arith, few_left (Semaphore p c) q))
  counted_fold o q v = (no_unheld o q refl v.0, omega (arith, few_left o q))

  gave_up : (i : ℕ) → Saved (based b) g i →
      GaveUp (folded b g) i (last_sleep (based b) g i).condition (last_sleep (based b) g i).holds
  gave_up i w =
      record {
        lock = w.lock;
        seat = w.seat;
        condition = w.condition;
        some = w.some;
        most = w.most;
        nothing = λ m. held_at i m ∙ w.nothing m;
      }

  stands_fold : (q : List Arrival) → AllByRecursion (Queues (based b) g) q →
      AllByRecursion (SavedIfBack (based b) g) q → LineSeated b.header.seats q →
      AllByRecursion (StandsWell (folded b g)) (map (standing_after b g) q)
  stands_fold [] asks saved seats = tt
  stands_fold (a ∷ q) asks saved seats =
      (by a.back refl, stands_fold q asks.1 saved.1 seats.1)
    where
      slept : Bool → Sleep
      slept r = cond r (last_sleep (based b) g a.seat) awake

      by : (r : Bool) → a.back ≡ r →
          StandsWell (folded b g) (stands_from a (cond a.back (last_sleep (based b) g a.seat) awake))
      by false e =
          let w = asks.0 e in
          inl (
            e,
            record {
              seat = seats.0;
              mode = w.0;
              amount = w.1;
              owns = held_at a.seat X ∙ w.2;
              condition = ap (λ r. (slept r).condition) e;
              holds = ap (λ r. (slept r).holds) e;
              how = ap (λ r. (slept r).how) e;
            },
          )
      by true e =
          let w = saved.0 e in
          inr (
            e,
            record {
              who = λ j. record { seat = a.seat; mode = w.mode j; n = w.n j; back = e j };
              gave = subst (λ (x : Sleep). GaveUp (folded b g) a.seat x.condition x.holds) (ap slept (sym e))
                  (gave_up a.seat w.saved);
              how = λ none. w.how (sym (ap (λ r. (slept r).how) e) ∙ none);
            },
          )

  sleeps_fold : (c : ℕ) (xs : List ℕ) → ((i : ℕ) → has i xs ≡ true → Sleeps (based b) g c i) →
      AllByRecursion (SleepsWell (folded b g) c) (map (sleeper_after b g) xs)
  sleeps_fold c [] well = tt
  sleeps_fold c (x ∷ xs) well =
      let w = well x (ap (λ t. t || has x xs) (eq-eqb x x refl)) in (
        subst (λ d. GaveUp (folded b g) x d (last_sleep (based b) g x).holds) w.condition (gave_up x w.saved),
        sleeps_fold c xs (λ i t. well i (or_right (eqb x i) (has i xs) t)),
      )

  sleepers_fold : (c : ℕ) → AllByRecursion (SleepsWell (folded b g) c) (sleepers_of (folded b g) c)
  sleepers_fold c = ⊎_elim within beyond (cases_below c b.header.conditions)
    where
      of : ℕ → List Sleeper
      of c = map (sleeper_after b g) (sleepers (based b) g c)

      within : c < b.header.conditions →
          AllByRecursion (SleepsWell (folded b g) c) (sleepers_of (folded b g) c)
      within l =
          subst (AllByRecursion (SleepsWell (folded b g) c)) (sym (get_or-each b.header.conditions of c [] l))
          (sleeps_fold c (sleepers (based b) g c) (λ i t. waits.sleepers c i t))

      beyond : b.header.conditions ≤ c →
          AllByRecursion (SleepsWell (folded b g) c) (sleepers_of (folded b g) c)
      beyond l =
          subst (AllByRecursion (SleepsWell (folded b g) c))
          (sym (get_or_past (each_below b.header.conditions of) c []
          (let n = length-each b.header.conditions of in omega (arith, n, l))))
          tt

  calls_few : calls (based (folded b g)) [] ≤ b.entries + length g
  calls_few = omega (arith, sym same.ended, calls-ended (based b) g, ended_calls_le g, can.good.calls)

  pub fold_good : IsGood (folded b g)
  fold_good =
      record {
        entries = few;
        seats = length-each b.header.seats (seat_after b g);
        conditions = length-each b.header.conditions (λ c. map (sleeper_after b g) (sleepers (based b) g c));
        calls = calls_few;
        counted = counted_fold b.header.object refl can.good.counted;
        held = held_fold b.header.object refl can.good.held;
        once = λ i. subst (λ l. times i l ≤ 1)
            (waiting_alike b.header (based b) (based (folded b g)) g [] same) (waits.once i);
        line = stands_fold (line (based b) g) (queues b can.good g can.legal can.seated) waits.line
            (line_seated_on b can.good g can.legal can.seated);
        sleepers = sleepers_fold;
      }

  pub fold_modest : IsModest (folded b g)
  fold_modest t = (unheld_few t, shared_few t)
