-- What an entry makes of the sleepers, and what it leaves of the other seats.
use Rattle.std.proofs.Common.{◌≡◌, ◌≢◌, ◌⊎◌, inl, ⊎_elim, ℕ, zero, suc, ◌+◌, ◌<◌, ◌≤◌, Bool, true, false, List, [], ◌∷◌, ◌++◌, drop, Option, None, refl, ap, ◌∙◌, sym, arith, eq-eqb, ne_eqb}
use Rattle.std.proofs.lemmas.Bool.{cases_eq, or_cases}
use Rattle.std.proofs.lemmas.Bool.Decides.{nat_tests}
use Rattle.history.specs.Prelude.{Arrival, Entry, Mode, Word, held, total, line, arrivals_by, Idle, Sleeping, phase_by, sleepers, sleepers_after, sleeps_below, last_sleep, has, without, Start, times, seats_of, asleep, waiting}
use Rattle.history.specs.declared.entry.Word.TheVariants as word
use Rattle.history.proofs.LineLemmas.{line_after}
use Rattle.history.proofs.Sums.{total_change, total_same}
use Rattle.history.proofs.Times.{times-append, times-take_drop, times-without_same, times-without_other, has_once, has_not, once_has, times-filter, times-line}

-- the entries of one seat change nothing of another's
pub last_sleep_other : (s : Start) (e : Entry) (h : List Entry) (i : ℕ) → e.seat ≢ i →
    last_sleep s (e ∷ h) i ≡ last_sleep s h i
last_sleep_other s e h i ne = rw (ne_eqb e.seat i ne) refl

pub held_other : (s : Start) (e : Entry) (h : List Entry) (i : ℕ) (m : Mode) → e.seat ≢ i →
    held s (e ∷ h) i m ≡ held s h i m
held_other s e h i m ne = rw (ne_eqb e.seat i ne) refl

-- the sleepers of the entry's condition, and of the others
pub sleepers_here : (s : Start) (e : Entry) (h : List Entry) →
    sleepers s (e ∷ h) e.at ≡ sleepers_after e.word e.seat e.n (sleepers s h e.at)
sleepers_here s e h = rw (eq-eqb e.at e.at refl) refl

pub sleepers_other : (s : Start) (e : Entry) (h : List Entry) (c : ℕ) → e.at ≢ c →
    sleepers s (e ∷ h) c ≡ sleepers s h c
sleepers_other s e h c ne = rw (ne_eqb e.at c ne) refl

-- the words that leave all sleepers
abbrev pub leaves_sleepers : Word → Bool
leaves_sleepers word.Await = false
leaves_sleepers word.Lapse = false
leaves_sleepers word.Signal = false
leaves_sleepers word.SignalAll = false
leaves_sleepers _ = true

left_as_they_are : (w : Word) (i n : ℕ) (seats : List ℕ) → leaves_sleepers w ≡ true →
    sleepers_after w i n seats ≡ seats
left_as_they_are w i n seats t = grind arith

pub sleepers_same : (s : Start) (e : Entry) (h : List Entry) (c : ℕ) → leaves_sleepers e.word ≡ true →
    sleepers s (e ∷ h) c ≡ sleepers s h c
sleepers_same s e h c t = grind (arith, left_as_they_are e.word e.seat e.n (sleepers s h c) t)

-- who sleeps after an entry slept before, or fell asleep by it
fewer_has : (i : ℕ) (xs ys : List ℕ) → times i ys ≤ times i xs → has i ys ≡ true → has i xs ≡ true
fewer_has i xs ys l t = let o = has_once i ys t in once_has i xs (omega (arith, l, o))

has_after : (w : Word) (j n i : ℕ) (xs : List ℕ) → has i (sleepers_after w j n xs) ≡ true →
    (has i xs ≡ true) ⊎ ((w ≡ word.Await) × (j ≡ i))
has_after word.Await j n i xs t = grind (arith, nat_tests, times-append i xs (j ∷ []), fewer_has i xs (xs ++ j ∷ []))
has_after word.Signal j n i xs t = grind (arith, times-take_drop i n xs, fewer_has i xs (drop n xs))
has_after word.SignalAll j n i xs t = cc
has_after word.Lapse j n i xs t =
    let o = has_once i (without j xs) t in
    grind (arith, cases_eq j i, o, times-without_same i xs, times-without_other i j xs, fewer_has i xs (without j xs))
has_after _ j n i xs t = inl t

pub slept_before : (s : Start) (e : Entry) (h : List Entry) (c i : ℕ) → has i (sleepers s (e ∷ h) c) ≡ true →
    (has i (sleepers s h c) ≡ true) ⊎ ((e.word ≡ word.Await) × (e.at ≡ c) × (e.seat ≡ i))
slept_before s e h c i t =
    let after = has_after e.word e.seat e.n i (sleepers s h c) in
    grind (arith, nat_tests, after)

-- whether a seat sleeps, said by the lists
pub sleeps_at : (c : ℕ) (s : Start) (h : List Entry) (i : ℕ) → sleeps_below c s h i ≡ true →
    (d : ℕ) × (d < c) × (has i (sleepers s h d) ≡ true)
sleeps_at zero s h i t = cc
sleeps_at (suc c) s h i t =
    ⊎_elim (λ here. (c, omega arith, here))
    (λ below. let r = sleeps_at c s h i below in (r.0, let l = r.1 in omega (arith, l), r.2))
    (or_cases (has i (sleepers s h c)) (sleeps_below c s h i) t)

pub sleeps_there : (c : ℕ) (s : Start) (h : List Entry) (i d : ℕ) → d < c → has i (sleepers s h d) ≡ true →
    sleeps_below c s h i ≡ true
sleeps_there zero s h i d l t = absurd (omega arith)
sleeps_there (suc c) s h i d l t = grind (arith, cases_eq d c, sleeps_there c s h i d)

pub awake_nowhere : (c : ℕ) (s : Start) (h : List Entry) (i : ℕ) → sleeps_below c s h i ≡ false →
    total c (λ d. times i (sleepers s h d)) ≡ 0
awake_nowhere zero s h i t = refl
awake_nowhere (suc c) s h i t = grind (arith, has_not i (sleepers s h c), awake_nowhere c s h i)

-- a phase, said by the line and the sleepers
pub idle_parts : (o : Option Arrival) (b : Bool) → phase_by o b ≡ Idle → (o ≡ None) × (b ≡ false)
idle_parts o b q = grind arith

pub sleeping_parts : (o : Option Arrival) (b : Bool) → phase_by o b ≡ Sleeping → (o ≡ None) × (b ≡ true)
sleeping_parts o b q = grind arith

-- how often a seat waits: in line, and on each condition
times-asleep : (c : ℕ) (s : Start) (h : List Entry) (i : ℕ) →
    times i (asleep c s h) ≡ total c (λ d. times i (sleepers s h d))
times-asleep zero s h i = refl
times-asleep (suc c) s h i =
    omega (arith, times-append i (asleep c s h) (sleepers s h c), times-asleep c s h i)

pub times-waiting : (s : Start) (h : List Entry) (i : ℕ) →
    times i (waiting s h) ≡ times i (seats_of (line s h)) + total s.header.conditions
    (λ c. times i (sleepers s h c))
times-waiting s h i =
    omega (arith, times-append, times-asleep s.header.conditions s h i)

-- a line grows by no more than who arrives, and one condition alone changes
pub times-line_after : (s : Start) (e : Entry) (h : List Entry) (i : ℕ) →
    times i (seats_of (line s (e ∷ h))) ≤ times i (seats_of (line s h)) + times i
    (seats_of (arrivals_by s e.word e h))
times-line_after s e h i =
    let l : times i (seats_of (line s (e ∷ h))) ≡ _ = ap (λ q. times i (seats_of q)) (line_after s e h) in
    omega (arith, l, times-line, times-filter)

pub total_moved : (s : Start) (e : Entry) (h : List Entry) (n i : ℕ) → e.at < n →
    total n (λ c. times i (sleepers s (e ∷ h) c)) + times i (sleepers s h e.at)
    ≡ total n (λ c. times i (sleepers s h c)) + times i (sleepers_after e.word e.seat e.n (sleepers s h e.at))
total_moved s e h n i l =
    total_change n (λ c. times i (sleepers s (e ∷ h) c)) (λ c. times i (sleepers s h c)) e.at l
    (λ c ne. ap (times i) (sleepers_other s e h c (λ q. ne (sym q))))
    ∙ ap (λ xs. total n (λ c. times i (sleepers s h c)) + times i xs) (sleepers_here s e h)

pub total_kept : (s : Start) (e : Entry) (h : List Entry) (n i : ℕ) → leaves_sleepers e.word ≡ true →
    total n (λ c. times i (sleepers s (e ∷ h) c)) ≡ total n (λ c. times i (sleepers s h c))
total_kept s e h n i t = total_same n _ _ (λ c. ap (times i) (sleepers_same s e h c t))
