-- In a legal history a seat waits in one place, and who sleeps or comes back saved its holds.
use Rattle.std.proofs.Common.{◌≡◌, ◌≢◌, ◌⊎◌, inl, inr, ⊎_elim, ℕ, zero, suc, ◌+◌, ◌<◌, ◌≤◌, Bool, true, ◌||◌, cond, eqb, List, [], ◌∷◌, ◌++◌, map, take, Some, refl, ap, ◌∙◌, sym, subst, arith, eq-eqb}
use Rattle.std.specs.List.{filter, AllByRecursion}
use Rattle.std.proofs.lemmas.Bool.{or_right}
use Rattle.std.proofs.lemmas.Bool.Decides.{nat_tests}
use Rattle.history.specs.Prelude.{Arrival, Entry, Mode, X, S, Word, Header, could, counts, held, holds_after, total, ends_arrival, same_mode, IsLegal, line, arrivals_by, place_of, coming_back, is_lock, in_holds, Idle, Sleeping, phase, sleepers, sleepers_after, sleeps_below, sleep_after, last_sleep, has, without, Start, Sleep, opening, lapse, times, seats_of, asleep, waiting, IsOneWait, most_exclusive}
use Rattle.history.specs.declared.entry.End.TheVariants as end
use Rattle.history.specs.declared.entry.Word.TheVariants as word
use Rattle.history.proofs.Entering.{Known, KnownBy, known}
use Rattle.history.proofs.LineLemmas.{line_after, stays}
use Rattle.history.proofs.Owners.{owner_holds, within_limit, ready_could, semaphore_no_lock}
use Rattle.history.proofs.SleepLemmas.{last_sleep_other, held_other, slept_before, sleeps_at, awake_nowhere, idle_parts, sleeping_parts, times-waiting, times-line_after, total_moved, total_kept, leaves_sleepers}
use Rattle.history.proofs.Times.{each-append, one_if, times-append, times-take_drop, times-without_same, times-without_other, has_once, once_has, place_once, place_never, seats-coming_back, total_part}

-- What is known of a seat that gave up its holds to sleep, and hasn't come back: it holds nothing, and saved
-- what it held.
pub record Saved (s : Start) (h : List Entry) (i : ℕ) : Type 0 where
  pub lock : is_lock s.header.object ≡ true
  pub seat : i < s.header.seats
  pub condition : (last_sleep s h i).condition < s.header.conditions
  pub some : 1 ≤ (last_sleep s h i).holds
  pub most : (last_sleep s h i).holds ≤ most_exclusive s.header.object
  pub nothing : (m : Mode) → held s h i m ≡ 0

-- What is known of a seat that sleeps on a condition.
pub record Sleeps (s : Start) (h : List Entry) (c i : ℕ) : Type 0 where
  pub saved : Saved s h i
  pub condition : (last_sleep s h i).condition ≡ c
  pub how : (last_sleep s h i).how ≡ end.Signalled

-- What is known of one in line that comes back from a condition.
pub record ComesBack (s : Start) (h : List Entry) (a : Arrival) : Type 0 where
  pub saved : Saved s h a.seat
  pub mode : a.mode ≡ X
  pub n : a.n ≡ 1
  pub how : (last_sleep s h a.seat).how ≢ end.None

abbrev pub SavedIfBack : Start → List Entry → Arrival → Type 0
SavedIfBack s h a = a.back ≡ true → ComesBack s h a

-- What is known of all who wait, and of the holds.
pub record Waits (s : Start) (h : List Entry) : Type 0 where
  pub once : IsOneWait s h
  pub sleepers : (c i : ℕ) → has i (sleepers s h c) ≡ true → Sleeps s h c i
  pub line : AllByRecursion (SavedIfBack s h) (line s h)
  pub holds : (i : ℕ) → i < s.header.seats → is_lock s.header.object ≡ true →
      held s h i X ≤ most_exclusive s.header.object

-- Whose entry it is: an idle seat's, one's that leaves the line, or a sleeper's that lapses.
pub data Acts (s : Start) (h : List Entry) (e : Entry) : Type 0 where
  of_idle : phase s h e.seat ≡ Idle → Acts s h e
  of_one_in_line : (a : Arrival) → place_of e.seat (line s h) ≡ Some a → ends_arrival e.word ≡ true →
      Acts s h e
  of_sleeper : phase s h e.seat ≡ Sleeping → e ≡ lapse s h e.seat e.end → Acts s h e

pub acts : (s : Start) (h : List Entry) (e : Entry) → Known s h e → Acts s h e
acts s h e k = by e.word refl k
  where
    by : (w : Word) → e.word ≡ w → KnownBy s h e w → Acts s h e
    by word.Queued q k = of_idle k.idle
    by word.Granted q k = of_one_in_line k.0 k.1.stands (ap ends_arrival q)
    by word.Missed q k = of_idle k.idle
    by word.Left q k = of_one_in_line k.0 k.1.stands (ap ends_arrival q)
    by (word.Refused f) q k = of_idle k.idle
    by word.Lapse q k = of_sleeper k.0 k.2
    by word.Back q k = of_one_in_line k.0 k.1 (ap ends_arrival q)
    by word.Drained q k = of_idle k.0
    by _ q k = of_idle k.0.idle

-- an idle seat waits nowhere, and one in line sleeps nowhere
pub idle_waits_nowhere : (s : Start) (h : List Entry) (i : ℕ) → phase s h i ≡ Idle →
    times i (waiting s h) ≡ 0
idle_waits_nowhere s h i p =
    let parts = idle_parts (place_of i (line s h)) (sleeps_below s.header.conditions s h i) p in
    let x = times-waiting s h i in
    omega (arith, place_never i (line s h) parts.0, awake_nowhere s.header.conditions s h i parts.1)

sleeper_waits : (s : Start) (h : List Entry) → Waits s h → (c i : ℕ) → has i (sleepers s h c) ≡ true →
    times i (seats_of (line s h)) + 1 ≤ times i (waiting s h)
sleeper_waits s h v c i t =
    let u = v.sleepers c i t in
    let below : c < s.header.conditions = omega (arith, u.saved.condition, u.condition) in
    let x = has_once i (sleepers s h c) t in
    omega (arith, total_part s.header.conditions (λ d. times i (sleepers s h d)) c below, times-waiting s h i)

-- a seat that slept before an entry of its own sleeps no longer
acting_awake : (s : Start) (h : List Entry) (e : Entry) → Waits s h → Acts s h e → (c i : ℕ) →
    has i (sleepers s (e ∷ h) c) ≡ true → has i (sleepers s h c) ≡ true → e.seat ≢ i
acting_awake s h e v a c i now before same = by a
  where
    before_seat : has e.seat (sleepers s h c) ≡ true
    before_seat = subst (λ j. has j (sleepers s h c) ≡ true) (sym same) before

    waits_once : times e.seat (seats_of (line s h)) + 1 ≤ times e.seat (waiting s h)
    waits_once = sleeper_waits s h v c e.seat before_seat

    by : Acts s h e → ⊥
    by (of_idle p) = omega (arith, idle_waits_nowhere s h e.seat p, waits_once)
    by (of_one_in_line b p t) =
        omega (arith, (place_once e.seat (line s h) b p).1, waits_once, v.once e.seat)
    by (of_sleeper p q) =
        let at : e.at ≡ c = ap (λ (x : Entry). x.at) q ∙ (v.sleepers c e.seat before_seat).condition in
        let list : sleepers s (e ∷ h) c ≡ without e.seat (sleepers s h c) =
        rw (eq-eqb e.at c at) (ap (λ (x : Entry). sleepers_after x.word e.seat e.n (sleepers s h c)) q) in
        let t : has e.seat (without e.seat (sleepers s h c)) ≡ true =
        ap (has e.seat) (sym list) ∙ ap (λ j. has j (sleepers s (e ∷ h) c)) same ∙ now in
        let y = times-without_same e.seat (sleepers s h c) in
        omega (arith, has_once e.seat (without e.seat (sleepers s h c)) t)

-- what was saved stays so at an entry of another seat
pub saved_other : (s : Start) (e : Entry) (h : List Entry) (i : ℕ) → e.seat ≢ i → Saved s h i →
    Saved s (e ∷ h) i
saved_other s e h i ne v =
    let l : last_sleep s h i ≡ last_sleep s (e ∷ h) i = sym (last_sleep_other s e h i ne) in
    record {
      lock = v.lock;
      seat = v.seat;
      condition = subst (λ (w : Sleep). w.condition < s.header.conditions) l v.condition;
      some = subst (λ (w : Sleep). 1 ≤ w.holds) l v.some;
      most = subst (λ (w : Sleep). w.holds ≤ most_exclusive s.header.object) l v.most;
      nothing = λ m. held_other s e h i m ne ∙ v.nothing m;
    }

sleeps_other : (s : Start) (e : Entry) (h : List Entry) (c i : ℕ) → e.seat ≢ i → Sleeps s h c i →
    Sleeps s (e ∷ h) c i
sleeps_other s e h c i ne v =
    let l : last_sleep s h i ≡ last_sleep s (e ∷ h) i = sym (last_sleep_other s e h i ne) in
    record {
      saved = saved_other s e h i ne v.saved;
      condition = subst (λ (w : Sleep). w.condition ≡ c) l v.condition;
      how = subst (λ (w : Sleep). w.how ≡ end.Signalled) l v.how;
    }

comes_other : (s : Start) (e : Entry) (h : List Entry) (a : Arrival) → e.seat ≢ a.seat → SavedIfBack s h a →
    SavedIfBack s (e ∷ h) a
comes_other s e h a ne v b =
    let l : last_sleep s h a.seat ≡ last_sleep s (e ∷ h) a.seat = sym (last_sleep_other s e h a.seat ne) in
    let w = v b in
    record {
      saved = saved_other s e h a.seat ne w.saved;
      mode = w.mode;
      n = w.n;
      how = subst (λ (x : Sleep). x.how ≢ end.None) l w.how;
    }

-- the last sleep of the entry's own seat, and its holds
pub last_sleep_own : (s : Start) (e : Entry) (h : List Entry) →
    last_sleep s (e ∷ h) e.seat ≡ sleep_after e.word e (last_sleep s h e.seat)
last_sleep_own s e h = rw (eq-eqb e.seat e.seat refl) refl

held_own : (s : Start) (e : Entry) (h : List Entry) (m : Mode) →
    held s (e ∷ h) e.seat m
    ≡ cond (same_mode e.mode m) (holds_after s.header.object e.word e.n (held s h e.seat m))
    (held s h e.seat m)
held_own s e h m = rw (eq-eqb e.seat e.seat refl) refl

-- who falls asleep saves what it held
falls_asleep : (s : Start) (h : List Entry) (e : Entry) → Waits s h → e.word ≡ word.Await →
    KnownBy s h e word.Await → Sleeps s (e ∷ h) e.at e.seat
falls_asleep s h e v q k =
    let on = k.0 in
    let owns = owner_holds (counts s h) e.seat on.owner in
    let l : last_sleep s (e ∷ h) e.seat ≡ record { condition = e.at; holds = e.n; how = end.Signalled } =
    last_sleep_own s e h ∙ ap (λ w. sleep_after w e (last_sleep s h e.seat)) q in
    let holds : (last_sleep s (e ∷ h) e.seat).holds ≡ e.n = ap (λ (w : Sleep). w.holds) l in
    let condition : (last_sleep s (e ∷ h) e.seat).condition ≡ e.at = ap (λ (w : Sleep). w.condition) l in
    record {
      saved = record {
        lock = on.lock;
        seat = owns.0;
        condition = omega (arith, condition, on.condition);
        some = omega (arith, holds, k.2, owns.1);
        most = omega (arith, holds, k.2, v.holds e.seat owns.0 on.lock);
        nothing = λ m. held_own s e h m
            ∙ ap (λ x. cond (same_mode x m) (holds_after s.header.object e.word e.n (held s h e.seat m))
            (held s h e.seat m)) on.mode ∙ nothing m;
      };
      condition = condition;
      how = ap (λ (w : Sleep). w.how) l;
    }
  where
    nothing : (m : Mode) →
        cond (same_mode X m) (holds_after s.header.object e.word e.n (held s h e.seat m)) (held s h e.seat m)
        ≡ 0
    nothing X = ap (λ w. holds_after s.header.object w e.n (held s h e.seat X)) q
    nothing S = k.1

sleepers_next : (s : Start) (h : List Entry) (e : Entry) → Waits s h → Known s h e → (c i : ℕ) →
    has i (sleepers s (e ∷ h) c) ≡ true → Sleeps s (e ∷ h) c i
sleepers_next s h e v k c i t =
    ⊎_elim
    (λ was. sleeps_other s e h c i (acting_awake s h e v (acts s h e k) c i t was) (v.sleepers c i was))
    (λ w. subst (Sleeps s (e ∷ h) c) w.2
    (subst (λ d. Sleeps s (e ∷ h) d e.seat) w.1 (falls_asleep s h e v w.0 (subst (KnownBy s h e) w.0 k))))
    (slept_before s e h c i t)

-- who stays in line is another than the entry's seat
leaving_others : (P Q : Arrival → Type 0) (e : Entry) → ((a : Arrival) → e.seat ≢ a.seat → P a → Q a) →
    ends_arrival e.word ≡ true → (q : List Arrival) → AllByRecursion P q →
    AllByRecursion Q (filter (stays e.word e.seat) q)
leaving_others P Q e kept t [] all = tt
leaving_others P Q e kept t (a ∷ q) all =
    grind (arith, nat_tests, kept a, leaving_others P Q e kept t q all.1)

staying_others : (P Q : Arrival → Type 0) (e : Entry) → ((a : Arrival) → e.seat ≢ a.seat → P a → Q a) →
    (p : Arrival → Bool) (q : List Arrival) → times e.seat (seats_of q) ≡ 0 → AllByRecursion P q →
    AllByRecursion Q (filter p q)
staying_others P Q e kept p [] z all = tt
staying_others P Q e kept p (a ∷ q) z all =
    grind (arith, nat_tests, kept a, staying_others P Q e kept p q (omega (arith, z)) all.1)

pub line_stays : (P Q : Arrival → Type 0) (s : Start) (h : List Entry) (e : Entry) → Acts s h e →
    ((a : Arrival) → e.seat ≢ a.seat → P a → Q a) → AllByRecursion P (line s h) →
    AllByRecursion Q (filter (stays e.word e.seat) (line s h))
line_stays P Q s h e (of_idle p) kept all =
    staying_others P Q e kept (stays e.word e.seat) (line s h)
    (omega (arith, idle_waits_nowhere s h e.seat p, times-waiting s h e.seat)) all
line_stays P Q s h e (of_one_in_line a p t) kept all = leaving_others P Q e kept t (line s h) all
line_stays P Q s h e (of_sleeper p q) kept all =
    let parts = sleeping_parts (place_of e.seat (line s h)) (sleeps_below s.header.conditions s h e.seat) p in
    staying_others P Q e kept (stays e.word e.seat) (line s h) (place_never e.seat (line s h) parts.0) all

-- who is moved from a condition, or lapses, comes back
pub all_come : (P : Arrival → Type 0) (xs : List ℕ) → ((i : ℕ) → has i xs ≡ true → P (coming_back i)) →
    AllByRecursion P (map coming_back xs)
all_come P [] each = tt
all_come P (x ∷ xs) each = (
  each x (ap (λ b. b || has x xs) (eq-eqb x x refl)),
  all_come P xs
      (λ i t. each i (or_right (eqb x i) (has i xs) t)),
)

moved_comes : (s : Start) (h : List Entry) (e : Entry) → Waits s h → phase s h e.seat ≡ Idle → (c i : ℕ) →
    has i (sleepers s h c) ≡ true → SavedIfBack s (e ∷ h) (coming_back i)
moved_comes s h e v p c i t =
    let u = v.sleepers c i t in
    let z = idle_waits_nowhere s h e.seat p in
    let w = sleeper_waits s h v c i t in
    let ne : e.seat ≢ i = λ same. omega (arith, z, w, ap (λ j. times j (waiting s h)) same) in
    comes_other s e h (coming_back i) ne
    (λ b. record { saved = u.saved; mode = refl; n = refl; how = λ q. cc (u.how, q) })

pub take_has : (n i : ℕ) (xs : List ℕ) → has i (take n xs) ≡ true → has i xs ≡ true
take_has n i xs t =
    once_has i xs (omega (arith, has_once i (take n xs) t, times-take_drop i n xs))

-- a sleeper that lapses sleeps on the condition of its last sleep
pub lapsing : (s : Start) (h : List Entry) (e : Entry) → Waits s h → phase s h e.seat ≡ Sleeping →
    e ≡ lapse s h e.seat e.end → (has e.seat (sleepers s h e.at) ≡ true) × Sleeps s h e.at e.seat
lapsing s h e v p q =
    let parts = sleeping_parts (place_of e.seat (line s h)) (sleeps_below s.header.conditions s h e.seat) p in
    let r = sleeps_at s.header.conditions s h e.seat parts.1 in
    let u = v.sleepers r.0 e.seat r.2 in
    let at : r.0 ≡ e.at = sym u.condition ∙ sym (ap (λ (x : Entry). x.at) q) in
    (subst (λ c. has e.seat (sleepers s h c) ≡ true) at r.2, subst (λ c. Sleeps s h c e.seat) at u)

lapse_comes : (s : Start) (h : List Entry) (e : Entry) → Waits s h → e.word ≡ word.Lapse →
    KnownBy s h e word.Lapse → SavedIfBack s (e ∷ h) (coming_back e.seat)
lapse_comes s h e v q k b =
    let u = (lapsing s h e v k.0 k.2).1 in
    let was = last_sleep s h e.seat in
    let l : last_sleep s (e ∷ h) e.seat ≡ record
    { condition = was.condition; holds = was.holds; how = e.end } =
    last_sleep_own s e h ∙ ap (λ w. sleep_after w e was) q in
    let condition : (last_sleep s (e ∷ h) e.seat).condition ≡ was.condition =
    ap (λ (w : Sleep). w.condition) l in
    let holds : (last_sleep s (e ∷ h) e.seat).holds ≡ was.holds = ap (λ (w : Sleep). w.holds) l in
    record {
      saved = record {
        lock = u.saved.lock;
        seat = u.saved.seat;
        condition = omega (arith, condition, u.saved.condition);
        some = omega (arith, holds, u.saved.some);
        most = omega (arith, holds, u.saved.most);
        nothing = λ m. grind (arith, q, u.saved.nothing m, held_own s e h m);
      };
      mode = refl;
      n = refl;
      how = λ none. let n = sym (ap (λ (w : Sleep). w.how) l) ∙ none in
          ⊎_elim (λ timeout. cc (timeout, n)) (λ interrupt. cc (interrupt, n)) k.1;
    }

arrivals_come : (s : Start) (h : List Entry) (e : Entry) → Waits s h → Known s h e →
    AllByRecursion (SavedIfBack s (e ∷ h)) (arrivals_by s e.word e h)
arrivals_come s h e v k = by e.word refl k
  where
    P : Arrival → Type 0
    P = SavedIfBack s (e ∷ h)

    by : (w : Word) → e.word ≡ w → KnownBy s h e w → AllByRecursion P (arrivals_by s w e h)
    by word.Queued q k = (λ b. cc (b), tt)
    by word.Signal q k =
        all_come P (take e.n (sleepers s h e.at))
        (λ i t. moved_comes s h e v k.0.idle e.at i (take_has e.n i (sleepers s h e.at) t))
    by word.SignalAll q k = all_come P (sleepers s h e.at) (λ i t. moved_comes s h e v k.0.idle e.at i t)
    by word.Lapse q k = (lapse_comes s h e v q k, tt)
    by _ q k = tt

line_next : (s : Start) (h : List Entry) (e : Entry) → Waits s h → Known s h e →
    AllByRecursion (SavedIfBack s (e ∷ h)) (line s (e ∷ h))
line_next s h e v k =
    subst (AllByRecursion (SavedIfBack s (e ∷ h))) (sym (line_after s e h))
    (each-append (SavedIfBack s (e ∷ h)) _ _
    (line_stays (SavedIfBack s h) (SavedIfBack s (e ∷ h)) s h e (acts s h e k) (comes_other s e h) v.line)
    (arrivals_come s h e v k))

-- one in line, by its place
pub placed : (P : Arrival → Type 0) (i : ℕ) (q : List Arrival) (a : Arrival) → AllByRecursion P q →
    place_of i q ≡ Some a → P a
placed P i [] a all p = cc
placed P i (b ∷ q) a all p = grind (arith, placed P i q a all.1)

-- nobody holds more than the limit
holds_next : (s : Start) (h : List Entry) (e : Entry) → Waits s h → Known s h e → (i : ℕ) →
    i < s.header.seats → is_lock s.header.object ≡ true → held s (e ∷ h) i X ≤ most_exclusive s.header.object
holds_next s h e v k i l lock =
    let c = λ (seat : e.seat ≡ i) (mode : e.mode ≡ X). changed seat mode e.word k in
    grind (arith, nat_tests, c, old)
  where
    had : ℕ
    had = held s h i X

    most : ℕ
    most = most_exclusive s.header.object

    old : had ≤ most
    old = v.holds i l lock

    taken : e.seat ≡ i → e.mode ≡ X → could (counts s h) e.seat e.mode e.n ≡ true →
        had + in_holds s.header.object e.n ≤ most
    taken seat mode t =
        within_limit (counts s h) i e.n l
        (subst (λ m. could (counts s h) i m e.n ≡ true) mode
        (subst (λ j. could (counts s h) j e.mode e.n ≡ true) seat t))

    changed : e.seat ≡ i → e.mode ≡ X → (w : Word) → KnownBy s h e w →
        holds_after s.header.object w e.n had ≤ most
    changed seat mode word.Got k = taken seat mode k.1
    changed seat mode word.TryGot k = taken seat mode k.1
    changed seat mode word.Granted k =
        let left = k.1.entry in
        let t : could (counts s h) e.seat k.0.mode k.0.n ≡ true = ready_could s h e.seat k.0 k.2 k.1.stands in
        let m : k.0.mode ≡ e.mode = sym (ap (λ (x : Entry). x.mode) left) in
        let n : k.0.n ≡ e.n = sym (ap (λ (x : Entry). x.n) left) in
        taken seat mode (subst (λ x. could (counts s h) e.seat x e.n ≡ true) m
        (subst (λ x. could (counts s h) e.seat k.0.mode x ≡ true) n t))
    changed seat mode word.Drained k = absurd (semaphore_no_lock s.header.object k.1 lock)
    changed seat mode word.Gave k = omega (arith, old)
    changed seat mode word.Await k = omega arith
    changed seat mode word.Back k =
        let w = placed (SavedIfBack s h) e.seat (line s h) k.0 v.line k.1 k.2 in
        let saved : Saved s h e.seat = subst (Saved s h) (place_once e.seat (line s h) k.0 k.1).0 w.saved in
        omega (arith, ap (λ (x : Entry). x.n) k.4, saved.nothing X, ap (λ j. held s h j X) seat, saved.most)
    changed seat mode _ k = old

-- how often a seat waits grows by an idle seat's own entry alone
abbrev Grows : Start → List Entry → Entry → ℕ → Type 0
Grows s h e i =
    (times i (waiting s (e ∷ h)) ≤ times i (waiting s h))
    ⊎ ((phase s h e.seat ≡ Idle) × (times i (waiting s (e ∷ h)) ≤ times i (waiting s h) + one_if
    (eqb e.seat i)))

arriving : (s : Start) (h : List Entry) (e : Entry) (i : ℕ) (w : Word) → e.word ≡ w →
    times i (waiting s (e ∷ h)) + total s.header.conditions (λ c. times i (sleepers s h c))
    ≤ times i (waiting s h) + times i (seats_of (arrivals_by s w e h))
    + total s.header.conditions (λ c. times i (sleepers s (e ∷ h) c))
arriving s h e i w q =
    let now = ap (λ x. times i (seats_of (arrivals_by s x e h))) q in
    omega (arith, now, times-waiting s h i, times-waiting s (e ∷ h) i, times-line_after s e h i)

moving : (s : Start) (h : List Entry) (e : Entry) (i : ℕ) (w : Word) → e.word ≡ w →
    e.at < s.header.conditions → times i (waiting s (e ∷ h)) + times i (sleepers s h e.at)
    ≤ times i (waiting s h) + times i (seats_of (arrivals_by s w e h)) + times i
    (sleepers_after w e.seat e.n (sleepers s h e.at))
moving s h e i w q below =
    let after = ap (λ x. times i (sleepers_after x e.seat e.n (sleepers s h e.at))) q in
    omega (arith, after, arriving s h e i w q, total_moved s e h s.header.conditions i below)

grows : (s : Start) (h : List Entry) (e : Entry) → Waits s h → Known s h e → (i : ℕ) → Grows s h e i
grows s h e v k i = by e.word refl k
  where
    on : List ℕ
    on = sleepers s h e.at

    kept : leaves_sleepers e.word ≡ true → total s.header.conditions (λ c. times i (sleepers s (e ∷ h) c))
        ≡ total s.header.conditions (λ c. times i (sleepers s h c))
    kept t = total_kept s e h s.header.conditions i t

    quiet : (w : Word) → e.word ≡ w → leaves_sleepers w ≡ true → arrivals_by s w e h ≡ [] → Grows s h e i
    quiet w q t none =
        let z = ap (λ x. times i (seats_of x)) none in
        inl (omega (arith, z, arriving s h e i w q, kept (ap leaves_sleepers q ∙ t)))

    by : (w : Word) → e.word ≡ w → KnownBy s h e w → Grows s h e i
    by word.Queued q k =
        inr (k.idle, omega (arith, arriving s h e i word.Queued q, kept (ap leaves_sleepers q)))
    by word.Await q k =
        let a = times-append i on (e.seat ∷ []) in
        inr (k.0.idle, omega (arith, a, moving s h e i word.Await q k.0.condition))
    by word.Signal q k =
        let c = ap (times i) (seats-coming_back (take e.n on)) in
        inl (omega (arith, c, times-take_drop i e.n on, moving s h e i word.Signal q k.0.condition))
    by word.SignalAll q k =
        let c = ap (times i) (seats-coming_back on) in
        inl (omega (arith, c, moving s h e i word.SignalAll q k.0.condition))
    by word.Lapse q k =
        let was = lapsing s h e v k.0 k.2 in
        let m = moving s h e i word.Lapse q (omega (arith, was.1.saved.condition, was.1.condition)) in
        let same = times-without_same i on in
        let other = times-without_other i e.seat on in
        inl (grind (arith, nat_tests, m, same, other, has_once e.seat on was.0))
    by _ q k = quiet _ q refl refl

once_next : (s : Start) (h : List Entry) (e : Entry) → Waits s h → Known s h e → IsOneWait s (e ∷ h)
once_next s h e v k i =
    grind (arith, nat_tests, grows s h e v k i, idle_waits_nowhere s h e.seat, v.once i)

-- each entry that a step makes keeps it so
pub waits_next : (s : Start) (h : List Entry) (e : Entry) → Waits s h → Known s h e → Waits s (e ∷ h)
waits_next s h e v k =
    record {
      once = once_next s h e v k;
      sleepers = sleepers_next s h e v k;
      line = line_next s h e v k;
      holds = holds_next s h e v k;
    }

pub waits_from : (s : Start) (h : List Entry) → Waits s [] → IsLegal s h → Waits s h
waits_from s [] v l = v
waits_from s (e ∷ h) v l = waits_next s h e (waits_from s h v l.1) (known s h l.0.0 e l.0.1)

nobody_waits : (c : ℕ) (k : Header) → asleep c (opening k) [] ≡ []
nobody_waits zero k = refl
nobody_waits (suc c) k = ap (λ xs. xs ++ []) (nobody_waits c k)

pub opening_waits : (k : Header) → Waits (opening k) []
opening_waits k =
    record {
      once = λ i. omega (arith, ap (times i) (nobody_waits k.conditions k));
      sleepers = λ c i t. absurd (cc t);
      line = tt;
      holds = λ i l lock. omega arith;
    }

-- all that is known of who waits in a legal history
pub waits : (k : Header) (h : List Entry) → IsLegal (opening k) h → Waits (opening k) h
waits k h l = waits_from (opening k) h (opening_waits k) l

-- in a legal history a seat stands in line or sleeps at most once
pub one_wait : (k : Header) (h : List Entry) → IsLegal (opening k) h → IsOneWait (opening k) h
one_wait k h l = (waits k h l).once
