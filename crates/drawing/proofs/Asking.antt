-- Who waits for a first acquire, by the queue, and what the number of those says of who barges.
use Rattle.std.proofs.Common.{◌≡◌, ⊎_elim, ℕ, zero, suc, ◌+◌, ◌≤◌, ◌<◌, Bool, true, false, ◌&&◌, cond, eqb, ltb, List, [], ◌∷◌, ◌++◌, map, Option, None, Some, refl, ap, ◌∙◌, sym, arith, is_some, append-nil, ne_eqb}
use mir.Val.{bool_byte}
use Rattle.std.specs.List.{filter}
use Rattle.std.proofs.lemmas.Bool.{cases_eq}
use Rattle.std.proofs.lemmas.Bool.Decides.{nat_tests}
use Rattle.drawing.specs.Below.{Arrival, Entry, IsLegal, Start, Word, arrivals_by, asks, begun, coming_back, ends_arrival, is_queued, line, place_of, takes_anew}
use Rattle.history.specs.declared.entry.Word.TheVariants as word
use Rattle.history.proofs.Entering.{known}
use Rattle.history.proofs.LineLemmas.{line_after, no_arrival, stays}
use Rattle.history.proofs.OneWait.{Acts, acts, of_idle, of_one_in_line, of_sleeper}
use Rattle.history.proofs.SleepLemmas.{idle_parts, sleeping_parts}
use Rattle.history.proofs.Staying.{arrives_by, arrives_itself, stays_in_line}
use Rattle.drawing.specs.Prelude.{askers, barges, passes, one_if}
use Rattle.drawing.specs.inner.Barging.{others}

-- what a mark counts
pub as_number : (b : Bool) → bool_byte b ≡ one_if b
as_number true = refl
as_number false = refl

queued_open : (b : Bool) (n : ℕ) → is_some (cond b (Some n) None) ≡ b
queued_open true n = refl
queued_open false n = refl

-- of those that arrive by an entry its own seat alone asks, if it queues
back-asks : (i : ℕ) (xs : List ℕ) → asks (place_of i (map coming_back xs)) ≡ false
back-asks i [] = refl
back-asks i (x ∷ xs) = grind (arith, back-asks i xs)

arrival-asks : (s : Start) (e : Entry) (h : List Entry) (w : Word) (i : ℕ) →
    asks (place_of i (arrivals_by s w e h)) ≡ (eqb e.seat i && is_queued w)
arrival-asks s e h w i = grind (arith, nat_tests, back-asks)

-- after an entry that ends its wait a seat stands nowhere
leaves : (w : Word) (i : ℕ) (q : List Arrival) → ends_arrival w ≡ true →
    place_of i (filter (stays w i) q) ≡ None
leaves w i [] t = refl
leaves w i (a ∷ q) t = grind (arith, nat_tests, leaves w i q t)

gone : (s : Start) (e : Entry) (h : List Entry) → ends_arrival e.word ≡ true →
    place_of e.seat (line s (e ∷ h)) ≡ None
gone s e h t =
    ap (place_of e.seat) (line_after s e h
    ∙ ap (λ q. filter (stays e.word e.seat) (line s h) ++ q) (no_arrival s e.word e h t) ∙ append-nil _)
    ∙ leaves e.word e.seat (line s h) t

-- whether a seat asks after an entry of its own, and after one of another seat
own_asks : (s : Start) (e : Entry) (h : List Entry) → Acts s h e →
    asks (place_of e.seat (line s (e ∷ h))) ≡ is_queued e.word
own_asks s e h (of_idle idle) =
    let away = (idle_parts (place_of e.seat (line s h)) _ idle).0 in
    grind (arith, nat_tests, gone s e h, arrives_itself s e h e.seat, away, arrival-asks s e h e.word e.seat)
own_asks s e h (of_one_in_line a p t) = grind (arith, gone s e h t)
own_asks s e h (of_sleeper p is) =
    let away = (sleeping_parts (place_of e.seat (line s h)) _ p).0 in
    grind (
      arith,
      nat_tests,
      arrives_itself s e h e.seat,
      away,
      ap (λ (x : Entry). x.word) is,
      arrival-asks s e h e.word e.seat,
    )

other_asks : (s : Start) (e : Entry) (h : List Entry) (i : ℕ) (o : Option Arrival) → (e.seat ≡ i → ⊥) →
    place_of i (line s h) ≡ o → asks (place_of i (line s (e ∷ h))) ≡ asks o
other_asks s e h i None ne q =
    ap asks (arrives_by s e h i ne q) ∙ arrival-asks s e h e.word i
    ∙ ap (λ b. b && is_queued e.word) (ne_eqb e.seat i ne)
other_asks s e h i (Some a) ne q = ap asks (stays_in_line s e h i a ne q)

-- the entry's seat waits after it, if it queues
pub own_waits : (s : Start) (e : Entry) (h : List Entry) → is_some (begun s (e ∷ h) e.seat) ≡ is_queued e.word
own_waits s e h = grind (arith, nat_tests)

other_waits : (s : Start) (e : Entry) (h : List Entry) (i : ℕ) → (e.seat ≡ i → ⊥) →
    is_some (begun s (e ∷ h) i) ≡ is_some (begun s h i)
other_waits s e h i ne = rw (ne_eqb e.seat i ne) refl

-- In a legal history a seat's place says whether it waits for a first acquire.
pub asks_by : (s : Start) (h : List Entry) (i : ℕ) → IsLegal s h →
    asks (place_of i (line s h)) ≡ is_some (begun s h i)
asks_by s [] i legal = sym (queued_open (asks (place_of i (line s []))) 0)
asks_by s (e ∷ h) i legal =
    ⊎_elim
    (λ same. ap (λ j. asks (place_of j (line s (e ∷ h)))) (sym same)
    ∙ own_asks s e h (acts s h e (known s h legal.0.0 e legal.0.1))
    ∙ sym (own_waits s e h) ∙ ap (λ j. is_some (begun s (e ∷ h) j)) same)
    (λ ne. other_asks s e h i (place_of i (line s h)) ne refl ∙ asks_by s h i legal.1
    ∙ sym (other_waits s e h i ne))
    (cases_eq e.seat i)

pub askers_few : (s : Start) (h : List Entry) (n : ℕ) → askers s h n ≤ n
askers_few s h zero = omega arith
askers_few s h (suc i) = grind (arith, askers_few s h i)

-- one seat is not among those below it
before : (s : Start) (h : List Entry) (j n : ℕ) → n ≤ j → others s h j n ≡ askers s h n
before s h j zero le = refl
before s h j (suc i) le = grind (arith, nat_tests, before s h j i (omega (arith, le)))

-- with that seat they are all
pub with_own : (s : Start) (h : List Entry) (j n : ℕ) → j < n →
    others s h j n + one_if (is_some (begun s h j)) ≡ askers s h n
with_own s h j zero lt = absurd (omega (arith, lt))
with_own s h j (suc i) lt = grind (arith, nat_tests, with_own s h j i, before s h j i)

-- those beside an entry's seat go on as they are
pub others_stay : (s : Start) (e : Entry) (h : List Entry) (n : ℕ) →
    others s (e ∷ h) e.seat n ≡ others s h e.seat n
others_stay s e h zero = refl
others_stay s e h (suc i) = grind (arith, others_stay s e h i)

-- an acquire that takes anew passes all others that wait
pub all_passed : (s : Start) (e : Entry) (h : List Entry) (n : ℕ) → takes_anew s e h ≡ true →
    passes s e h n ≡ others s h e.seat n
all_passed s e h zero takes = refl
all_passed s e h (suc i) takes = grind (arith, all_passed s e h i takes)

-- any other entry passes nobody
pub none_passed : (s : Start) (e : Entry) (h : List Entry) (n : ℕ) → takes_anew s e h ≡ false →
    passes s e h n ≡ 0
none_passed s e h zero takes = refl
none_passed s e h (suc i) takes = grind (arith, none_passed s e h i takes)

-- who barges
pub barges_by : (s : Start) (e : Entry) (h : List Entry) (takes : Bool) → takes ≡ takes_anew s e h →
    barges s e h ≡ (takes && ltb 0 (others s h e.seat s.header.seats))
barges_by s e h true is = ap (ltb 0) (all_passed s e h s.header.seats (sym is))
barges_by s e h false is = ap (ltb 0) (none_passed s e h s.header.seats (sym is))
