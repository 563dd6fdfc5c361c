-- What one wait says of the line, of the sleepers, and of their number.
use Rattle.std.proofs.Common.{◌≡◌, ℕ, zero, suc, ◌+◌, ◌<◌, ◌≤◌, Bool, true, false, ◌||◌, eqb, List, [], ◌∷◌, take, length, Some, None, refl, ap, ◌∙◌, sym, subst, arith, eq-eqb, length-append}
use Rattle.std.specs.List.{AllByRecursion}
use Rattle.std.proofs.lemmas.Bool.{or_right}
use Rattle.std.proofs.lemmas.List.{length-map}
use Rattle.history.specs.Prelude.{Arrival, Entry, Word, Header, IsLegal, AreSeated, line, arrivals_by, place_of, Idle, phase, sleepers, sleeps_below, last_sleep, has, Start, opening, times, seats_of, asleep, waiting, IsOneWait, StandOnce}
use Rattle.history.specs.declared.entry.Word.TheVariants as word
use Rattle.history.proofs.Entering.{Known, KnownBy, known}
use Rattle.history.proofs.LineLemmas.{line_after, stays}
use Rattle.history.proofs.OneWait.{all_come, ComesBack, SavedIfBack, Waits, waits, placed, idle_waits_nowhere, take_has}
use Rattle.history.proofs.SleepLemmas.{sleeps_at, times-waiting}
use Rattle.history.proofs.Times.{each-append, each-filter, once_same, has_once, place_once, never_placed, total_part, pigeonhole, pigeonhole_less}

once_line : (q : List Arrival) → ((i : ℕ) → times i (seats_of q) ≤ 1) → StandOnce q
once_line [] one = tt
once_line (a ∷ q) one = (
  never_placed a.seat q (omega (arith, one a.seat, once_same a.seat a.seat refl)),
  once_line q (λ i. omega (arith, one i)),
)

pub stand_once : (s : Start) (h : List Entry) → IsOneWait s h → StandOnce (line s h)
stand_once s h one = once_line (line s h) (λ i. omega (arith, one i, times-waiting s h i))

-- a seat in line sleeps nowhere, and a sleeper stands in no line
pub in_line_awake : (s : Start) (h : List Entry) (i : ℕ) (a : Arrival) → IsOneWait s h →
    place_of i (line s h) ≡ Some a → sleeps_below s.header.conditions s h i ≡ false
in_line_awake s h i a one p = by (sleeps_below s.header.conditions s h i) refl
  where
    by : (b : Bool) → sleeps_below s.header.conditions s h i ≡ b → b ≡ false
    by false t = refl
    by true t =
        let r = sleeps_at s.header.conditions s h i t in
        let x = total_part s.header.conditions (λ d. times i (sleepers s h d)) r.0 r.1 in
        let y = times-waiting s h i in
        absurd (omega (arith, (place_once i (line s h) a p).1, has_once i (sleepers s h r.0) r.2, one i))

pub asleep_out_of_line : (s : Start) (h : List Entry) (i : ℕ) → IsOneWait s h →
    sleeps_below s.header.conditions s h i ≡ true → place_of i (line s h) ≡ None
asleep_out_of_line s h i one t =
    let awake = λ (a : Arrival) (p : place_of i (line s h) ≡ Some a). in_line_awake s h i a one p in
    grind (arith, t, awake)

-- a sleeper sleeps on the condition of its last sleep alone, and on none that the object lacks
pub sleeper_condition : (s : Start) (h : List Entry) → Waits s h → (i : ℕ) →
    sleeps_below s.header.conditions s h i ≡ true →
    ((last_sleep s h i).condition < s.header.conditions)
    × (has i (sleepers s h (last_sleep s h i).condition) ≡ true)
sleeper_condition s h v i t =
    let r = sleeps_at s.header.conditions s h i t in
    let u = v.sleepers r.0 i r.2 in
    (u.saved.condition, subst (λ c. has i (sleepers s h c) ≡ true) (sym u.condition) r.2)

pub one_condition : (s : Start) (h : List Entry) → Waits s h → (i c d : ℕ) → has i (sleepers s h c) ≡ true →
    has i (sleepers s h d) ≡ true → c ≡ d
one_condition s h v i c d t u = sym (v.sleepers c i t).condition ∙ (v.sleepers d i u).condition

pub no_sleepers_above : (s : Start) (h : List Entry) → Waits s h → (c : ℕ) → s.header.conditions ≤ c →
    sleepers s h c ≡ []
no_sleepers_above s h v c above = by (sleepers s h c) refl
  where
    by : (xs : List ℕ) → sleepers s h c ≡ xs → xs ≡ []
    by [] q = refl
    by (x ∷ xs) q =
        let t : has x (sleepers s h c) ≡ true = ap (has x) q ∙ ap (λ b. b || has x xs) (eq-eqb x x refl) in
        let u = v.sleepers c x t in
        absurd (omega (arith, u.saved.condition, u.condition, above))

-- one in line that comes back asks for X and 1 of a lock, and saved its holds
pub comes_back : (s : Start) (h : List Entry) → Waits s h → (i : ℕ) (a : Arrival) →
    place_of i (line s h) ≡ Some a → a.back ≡ true → ComesBack s h a × (a.seat ≡ i)
comes_back s h v i a p b =
    (placed (SavedIfBack s h) i (line s h) a v.line p b, (place_once i (line s h) a p).0)

-- who waits has one of the object's seats, where each entry has one
each_has : (n : ℕ) (xs : List ℕ) → ((i : ℕ) → has i xs ≡ true → i < n) → AllByRecursion (λ x. x < n) xs
each_has n [] each = tt
each_has n (x ∷ xs) each = (
  each x (ap (λ b. b || has x xs) (eq-eqb x x refl)),
  each_has n xs
      (λ i t. each i (or_right (eqb x i) (has i xs) t)),
)

abbrev pub LineSeated : ℕ → List Arrival → Type 0
LineSeated n q = AllByRecursion (λ a. a.seat < n) q

seated_seats : (n : ℕ) (q : List Arrival) → LineSeated n q → AllByRecursion (λ x. x < n) (seats_of q)
seated_seats n [] all = tt
seated_seats n (a ∷ q) all = (all.0, seated_seats n q all.1)

pub line_seated_next : (s : Start) (h : List Entry) (e : Entry) → Waits s h → Known s h e →
    e.seat < s.header.seats →
    LineSeated s.header.seats (line s h) → LineSeated s.header.seats (line s (e ∷ h))
line_seated_next s h e v k l all =
    subst (LineSeated s.header.seats) (sym (line_after s e h))
    (each-append (λ a. a.seat < s.header.seats) _ _
    (each-filter (λ a. a.seat < s.header.seats) (stays e.word e.seat) (line s h) all)
    (by e.word k))
  where
    sleeper : (i : ℕ) → has i (sleepers s h e.at) ≡ true → i < s.header.seats
    sleeper i t = (v.sleepers e.at i t).saved.seat

    moved : (i : ℕ) → has i (take e.n (sleepers s h e.at)) ≡ true → i < s.header.seats
    moved i t = sleeper i (take_has e.n i (sleepers s h e.at) t)

    by : (w : Word) → KnownBy s h e w → LineSeated s.header.seats (arrivals_by s w e h)
    by word.Queued k = (l, tt)
    by word.Lapse k = (l, tt)
    by word.Signal k = all_come (λ a. a.seat < s.header.seats) _ moved
    by word.SignalAll k = all_come (λ a. a.seat < s.header.seats) _ sleeper
    by _ k = tt

pub line_seated : (k : Header) (h : List Entry) → IsLegal (opening k) h → AreSeated (opening k) h →
    LineSeated k.seats (line (opening k) h)
line_seated k [] l a = tt
line_seated k (e ∷ h) l a =
    line_seated_next (opening k) h e (waits k h l.1) (known (opening k) h l.0.0 e l.0.1) a.0
    (line_seated k h l.1 a.1)

asleep_seated : (c : ℕ) (s : Start) (h : List Entry) → Waits s h →
    AllByRecursion (λ x. x < s.header.seats) (asleep c s h)
asleep_seated zero s h v = tt
asleep_seated (suc c) s h v =
    each-append (λ x. x < s.header.seats) (asleep c s h) (sleepers s h c) (asleep_seated c s h v)
    (each_has s.header.seats (sleepers s h c) (λ i t. (v.sleepers c i t).saved.seat))

pub waiting_seated : (s : Start) (h : List Entry) → Waits s h → LineSeated s.header.seats (line s h) →
    AllByRecursion (λ x. x < s.header.seats) (waiting s h)
waiting_seated s h v l =
    each-append (λ x. x < s.header.seats) (seats_of (line s h)) (asleep s.header.conditions s h)
    (seated_seats s.header.seats (line s h) l) (asleep_seated s.header.conditions s h v)

-- no more wait than there are seats, and fewer where a seat is idle
length_waiting : (s : Start) (h : List Entry) →
    length (waiting s h) ≡ length (line s h) + length (asleep s.header.conditions s h)
length_waiting s h =
    length-append (seats_of (line s h)) (asleep s.header.conditions s h)
    ∙ ap (λ n. n + length (asleep s.header.conditions s h)) (length-map (line s h) (λ (a : Arrival). a.seat))

pub few_wait : (s : Start) (h : List Entry) → Waits s h → LineSeated s.header.seats (line s h) →
    length (line s h) + length (asleep s.header.conditions s h) ≤ s.header.seats
few_wait s h v l =
    omega (arith, length_waiting s h, pigeonhole s.header.seats (waiting s h) (waiting_seated s h v l) v.once)

pub idle_leaves_a_place : (s : Start) (h : List Entry) (i : ℕ) → Waits s h →
    LineSeated s.header.seats (line s h) → i < s.header.seats → phase s h i ≡ Idle →
    length (line s h) + length (asleep s.header.conditions s h) < s.header.seats
idle_leaves_a_place s h i v l seat idle =
    let few = pigeonhole_less s.header.seats (waiting s h) i (waiting_seated s h v l) v.once seat
    (idle_waits_nowhere s h i idle) in
    omega (arith, few, length_waiting s h)

pub all_fit : (k : Header) (h : List Entry) → IsLegal (opening k) h → AreSeated (opening k) h →
    length (line (opening k) h) + length (asleep k.conditions (opening k) h) ≤ k.seats
all_fit k h l a = few_wait (opening k) h (waits k h l) (line_seated k h l a)
