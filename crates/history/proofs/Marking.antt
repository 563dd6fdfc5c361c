-- Whoever is first in line and could go was told.
use Rattle.std.proofs.Common.{◌≡◌, ◌⊎◌, inl, inr, ℕ, ◌<◌, ◌≤◌, ⊎_elim, eqb-true, Bool, true, false, ◌&&◌, ◌||◌, not, cond, eqb, List, [], ◌∷◌, ◌++◌, map, take, Option, Some, None, Ok, Err, refl, ap, ◌∙◌, sym, subst, arith, eq-eqb, ne_eqb, true≢false, append-nil}
use Rattle.std.specs.List.{filter}
use Rattle.std.proofs.lemmas.Bool.{and_parts, and_right, eqb-false, or_left, or_right}
use Rattle.std.proofs.lemmas.Bool.Decides.{nat_tests}
use Rattle.std.proofs.lemmas.Option.{none-some}
use Rattle.history.specs.Prelude.{Arrival, Entry, Word, Fault, Header, Recorded, Step, answer, results, could, held_back, is_seat, limit, counts, ends_arrival, is_bad_amount, is_no_condition, is_wrong_mode, arrivals_by, coming_back, first_mode, first_of, line, mode_of, place_of, named, named_by, ready, Idle, InLine, phase, phase_by, suits, sleepers, sleeps_below, Start, opening, entry_for, idle_entry, phase_entry, queued_entry, seats_of, times, AreRight, AreTold, StandInLine, is_lapse, is_placed, marks, marks_after, own_mark, remarked, unmarked}
use Rattle.history.specs.declared.entry.Word.TheVariants as word
use Rattle.history.specs.declared.fault.Fault.TheVariants as fault
use Rattle.history.specs.declared.step.Answer.TheVariants.{Sleep}
use Rattle.history.specs.declared.step.Step.TheVariants as step
use Rattle.history.proofs.Changes.{counts_nothing, counts_same, line_queued}
use Rattle.history.proofs.Entering.{KnownBy, by_phase, known, seat_is}
use Rattle.history.proofs.LineLemmas.{line_after, no_arrival, stays}
use Rattle.history.proofs.Owners.{ready_could, ready_first}
use Rattle.history.proofs.RoomLemmas.{answered}
use Rattle.history.proofs.SleepLemmas.{idle_parts, sleeps_there}
use Rattle.history.proofs.Staying.{arrives_itself, stays_in_line, stays_while}
use Rattle.history.proofs.Times.{once_has, place_once, seats-coming_back, times-take_drop}
use Rattle.history.proofs.Answering.{entry_seat}
use Rattle.history.proofs.Alike.{Alike, on, ready_alike}

-- who is ready stands in line
first_stands : (q : List Arrival) (a : Arrival) (i : ℕ) → first_of q ≡ Some a → a.seat ≡ i →
    place_of i q ≡ Some a
first_stands [] a i f same = cc
first_stands (b ∷ q) a i f same = grind (arith, nat_tests)

ready_stands : (s : Start) (h : List Entry) (i : ℕ) → ready s h ≡ Some i →
    (a : Arrival) × (place_of i (line s h) ≡ Some a)
ready_stands s h i r =
    let f = ready_first (counts s h) (line s h) i r in
    (f.0, first_stands (line s h) f.0 i f.1 f.2)

-- A seat that is answered Sleep couldn't go.
let_by : (a b c d : Bool) (f g u v : Fault) (x y : Option Entry) →
    cond a (Err f) (cond b (Err g) (cond c (Err u) (cond (not d) (Err v) (Ok x)))) ≡ Ok y → (d ≡ true) × (x ≡ y)
let_by a b c d f g u v x y q = grind arith

goes_makes : (i : ℕ) (a : Arrival) (x : Step) (e : Entry) (comes : Bool) → suits (InLine a) x ≡ true →
    cond comes (cond true (Some e) None) (queued_entry true i a x) ≡ None → ⊥
goes_makes i a x e comes t q = grind arith

pub sleeper_not_ready : (s : Start) (h : List Entry) (i : ℕ) (x : Step) → entry_for s h i x ≡ Ok None →
    ready s h ≡ Some i → ⊥
sleeper_not_ready s h i x q r =
    let stands = ready_stands s h i r in
    let a = stands.0 in
    let p : phase s h i ≡ InLine a =
    ap (λ o. phase_by o (sleeps_below s.header.conditions s h i)) stands.1 in
    let q3 = let_by (is_wrong_mode s.header.object x) (is_no_condition s.header x)
    (is_bad_amount s.header.object x) (suits (phase s h i) x) fault.WrongMode fault.NoSuchCondition
    fault.BadAmount fault.OutOfPhase (phase_entry s h i x (phase s h i)) None q in
    let suited : suits (InLine a) x ≡ true = subst (λ y. suits y x ≡ true) p q3.0 in
    let made : phase_entry s h i x (InLine a) ≡ None = subst (λ y. phase_entry s h i x y ≡ None) p q3.1 in
    let ready_itself : is_seat (ready s h) i ≡ true = ap (λ o. is_seat o i) r ∙ eq-eqb i i refl in
    goes_makes i a x _ a.back suited (rw ready_itself at made)

-- Why an acquire is queued: the line holds it back, or it couldn't take.
acquire_why : (b c d : Bool) (f : Fault) →
    cond b word.Queued (cond c (word.Refused f) (cond d word.Got word.Queued)) ≡ word.Queued →
    (b ≡ true) ⊎ (d ≡ false)
acquire_why b c d f t = grind arith

abbrev IsHeld : Start → List Entry → Entry → Type 0
IsHeld s h e = (held_back (counts s h) (first_mode s h) e.seat e.mode ≡ true)
    ⊎ (could (counts s h) e.seat e.mode e.n ≡ false)

queued_why : (s : Start) (h : List Entry) (i : ℕ) (x : Step) → (idle_entry s h i x).word ≡ word.Queued →
    IsHeld s h (idle_entry s h i x)
queued_why s h i (step.Acquire m n) t =
    acquire_why (held_back (counts s h) (first_mode s h) i m) (limit (counts s h) i m)
    (could (counts s h) i m n) fault.TooManyHolds t
queued_why s h i _ t = absurd (grind arith)

-- One that is queued can't go at once.
new_first : (q : List Arrival) (a : Arrival) (i : ℕ) → a.seat ≡ i → place_of i q ≡ None →
    (f : Arrival) → first_of (q ++ a ∷ []) ≡ Some f → f.seat ≡ i → q ≡ []
new_first [] a i same none f first seat = refl
new_first (b ∷ q) a i same none f first seat = grind (arith, nat_tests)

queued_waits : (s : Start) (h : List Entry) (e : Entry) → e.word ≡ word.Queued →
    place_of e.seat (line s h) ≡ None → IsHeld s h e → ready s (e ∷ h) ≡ Some e.seat → ⊥
queued_waits s h e w none held r =
    ⊎_elim (λ b. true≢false (sym b ∙ free)) (λ c. true≢false (sym takes ∙ c)) held
  where
    own : Arrival
    own = record { seat = e.seat; mode = e.mode; n = e.n; back = false }

    after : line s (e ∷ h) ≡ line s h ++ own ∷ []
    after = line_queued s e h w

    empty : line s h ≡ []
    empty =
        let f = ready_first (counts s (e ∷ h)) (line s (e ∷ h)) e.seat r in
        new_first (line s h) own e.seat refl none f.0 (subst (λ q. first_of q ≡ Some f.0) after f.1) f.2

    same : counts s (e ∷ h) ≡ counts s h
    same = counts_same s e h (ap counts_nothing w)

    takes : could (counts s h) e.seat e.mode e.n ≡ true
    takes =
        let alone : place_of e.seat (own ∷ []) ≡ Some own = rw (eq-eqb e.seat e.seat refl) refl in
        let place : place_of e.seat (line s (e ∷ h)) ≡ Some own =
        ap (place_of e.seat) (after ∙ ap (λ q. q ++ own ∷ []) empty) ∙ alone in
        subst (λ k. could k e.seat e.mode e.n ≡ true) same (ready_could s (e ∷ h) e.seat own r place)

    free : held_back (counts s h) (first_mode s h) e.seat e.mode ≡ false
    free = ap (λ q. held_back (counts s h) (mode_of (first_of q)) e.seat e.mode) empty ∙ and_right _ false refl

-- Who stands in line behind an entry of its own and could go lapsed by it.
leaves : (w : Word) (i : ℕ) (q : List Arrival) → ends_arrival w ≡ true →
    place_of i (filter (stays w i) q) ≡ None
leaves w i [] t = refl
leaves w i (a ∷ q) t = grind (arith, nat_tests, leaves w i q t)

gone : (s : Start) (e : Entry) (h : List Entry) → ends_arrival e.word ≡ true →
    place_of e.seat (line s (e ∷ h)) ≡ None
gone s e h t =
    ap (place_of e.seat) (line_after s e h
    ∙ ap (λ l. filter (stays e.word e.seat) (line s h) ++ l) (no_arrival s e.word e h t) ∙ append-nil _)
    ∙ leaves e.word e.seat (line s h) t

not_moved : (s : Start) (h : List Entry) (i c : ℕ) (seats : List ℕ) (a : Arrival) → phase s h i ≡ Idle →
    c < s.header.conditions → times i seats ≤ times i (sleepers s h c) →
    place_of i (map coming_back seats) ≡ Some a → ⊥
not_moved s h i c seats a idle below few p =
    let once = (place_once i _ a p).1 in
    let same : times i (seats_of (map coming_back seats)) ≡ times i seats =
    ap (times i) (seats-coming_back seats) in
    let asleep = sleeps_there s.header.conditions s h i c below
    (once_has i (sleepers s h c) (omega (arith, once, same, few))) in
    let awake = (idle_parts _ _ idle).1 in
    cc

own_lapse : (s : Start) (h : List Entry) (e : Entry) (a : Arrival) →
    (e.word ≡ word.Queued → phase s h e.seat ≡ Idle → ⊥) →
    place_of e.seat (line s (e ∷ h)) ≡ Some a → KnownBy s h e e.word → is_lapse e.word ≡ true
own_lapse s h e a not_queued place k = by e.word refl k
  where
    arrived : (w : Word) → e.word ≡ w → ends_arrival w ≡ false → phase s h e.seat ≡ Idle →
        place_of e.seat (arrivals_by s w e h) ≡ Some a
    arrived w q t idle =
        ap (λ v. place_of e.seat (arrivals_by s v e h)) (sym q)
        ∙ sym (arrives_itself s e h e.seat (ap ends_arrival q ∙ t) (idle_parts _ _ idle).0) ∙ place

    left : (w : Word) → e.word ≡ w → ends_arrival w ≡ true → ⊥
    left w q t = none-some a (sym (gone s e h (ap ends_arrival q ∙ t)) ∙ place)

    by : (w : Word) → e.word ≡ w → KnownBy s h e w → is_lapse w ≡ true
    by word.Lapse q k = refl
    by word.Queued q k = absurd (not_queued q k.idle)
    by word.Granted q k = absurd (left word.Granted q refl)
    by word.Left q k = absurd (left word.Left q refl)
    by word.Back q k = absurd (left word.Back q refl)
    by word.Signal q k =
        absurd (not_moved s h e.seat e.at (take e.n (sleepers s h e.at)) a k.0.idle k.0.condition
        (omega (arith, times-take_drop e.seat e.n (sleepers s h e.at))) (arrived word.Signal q refl k.0.idle))
    by word.SignalAll q k =
        absurd (not_moved s h e.seat e.at (sleepers s h e.at) a k.0.idle k.0.condition (omega arith)
        (arrived word.SignalAll q refl k.0.idle))
    by v q k = absurd (none-some a (arrived v q refl (cc)))

own_waiter : (s : Start) (h : List Entry) (i : ℕ) (x : Step) (e : Entry) → entry_for s h i x ≡ Ok (Some e) →
    ready s (e ∷ h) ≡ Some e.seat → is_lapse e.word ≡ true
own_waiter s h i x e q r =
    let stands = ready_stands s (e ∷ h) e.seat r in
    own_lapse s h e stands.0 not_queued stands.1 (known s h x e own)
  where
    own : entry_for s h e.seat x ≡ Ok (Some e)
    own = subst (λ j. entry_for s h j x ≡ Ok (Some e)) (sym (entry_seat s h i x e q)) q

    not_queued : e.word ≡ word.Queued → phase s h e.seat ≡ Idle → ⊥
    not_queued w idle =
        let made : Some (idle_entry s h e.seat x) ≡ Some e =
        subst (λ p. phase_entry s h e.seat x p ≡ Some e) idle (by_phase s h e.seat x e own) in
        let same : idle_entry s h e.seat x ≡ e = cc in
        queued_waits s h e w (idle_parts _ _ idle).0
        (subst (IsHeld s h) same (queued_why s h e.seat x (ap (λ (y : Entry). y.word) same ∙ w))) r

-- The marks behind an answer.

-- who is ready behind an entry was named by it, made it, or was ready before it
pub told_now : (before : Option ℕ) (i seat : ℕ) → (named_by before (Some i) seat ≡ Some i) ⊎ (seat ≡ i)
    ⊎ (before ≡ Some i)
told_now before i seat = grind (arith, nat_tests)

-- what a name says of whom it names
pub named_ready : (before after : Option ℕ) (seat i : ℕ) → named_by before after seat ≡ Some i →
    (after ≡ Some i) × (is_seat before i ≡ false) × (eqb i seat ≡ false)
named_ready before after seat i n = grind (arith, nat_tests)

pub recorded_told : (s : Start) (h : List Entry) (i : ℕ) (x : Step) (m : ℕ → Bool) (e : Entry) →
    entry_for s h i x ≡ Ok (Some e) → AreTold s h m →
    AreTold s (e ∷ h) (marks_after s h i (Ok (Recorded e (named s h e))) m)
recorded_told s h i x m e q told j r =
    let stands = ready_stands s (e ∷ h) j r in
    rw stands.1 (rw (marked (told_now (ready s h) j e.seat)) refl)
  where
    marked : (named_by (ready s h) (Some j) e.seat ≡ Some j) ⊎ (e.seat ≡ j) ⊎ (ready s h ≡ Some j) →
        (m j || is_seat (named s h e) j || (is_lapse e.word && eqb e.seat j)) ≡ true
    marked (inl n) =
        or_left (m j || is_seat (named s h e) j) _ (or_right (m j) _
        (ap (λ o. is_seat (named_by (ready s h) o e.seat) j) r ∙ ap (λ o. is_seat o j) n ∙ eq-eqb j j refl))
    marked (inr (inl own)) =
        let lapse : is_lapse e.word ≡ true = own_waiter s h i x e q (r ∙ ap Some (sym own)) in
        or_right (m j || is_seat (named s h e) j) _ (rw lapse (eq-eqb e.seat j own))
    marked (inr (inr before)) = or_left (m j || is_seat (named s h e) j) _ (or_left (m j) _ (told j before))

slept_told : (s : Start) (h : List Entry) (i : ℕ) (m : ℕ → Bool) → (ready s h ≡ Some i → ⊥) → AreTold s h m →
    AreTold s h (marks_after s h i (Ok Sleep) m)
slept_told s h i m waits told j r = rw (told j r) (ap not (ne_eqb j i (λ same. waits (r ∙ ap Some same))))

pub told_after : (s : Start) (h : List Entry) (i : ℕ) (x : Step) (m : ℕ → Bool) → AreTold s h m →
    AreTold s (answer s h i x).1 (marks_after s h i (answer s h i x).0 m)
told_after s h i x m told =
    answered s h i x (λ r g. AreTold s g (marks_after s h i r m)) (λ f. told)
    (λ q. slept_told s h i m (sleeper_not_ready s h i x q) told) (λ e room q. recorded_told s h i x m e q told)

pub opening_told : (k : Header) → AreTold (opening k) [] unmarked
opening_told k i r = cc

pub results_told : (s : Start) (h : List Entry) (m : ℕ → Bool) (steps : List (ℕ × Step)) → AreTold s h m →
    AreTold s (results s h steps).1 (marks s h m steps)
results_told s h m [] told = told
results_told s h m (first ∷ steps) told =
    let now = answer s h first.0 first.1 in
    results_told s now.1 (marks_after s h first.0 now.0 m) steps (told_after s h first.0 first.1 m told)

-- Only who stands in line is marked.
recorded_stand : (s : Start) (h : List Entry) (i : ℕ) (m : ℕ → Bool) (e : Entry) (who : Option ℕ) →
    StandInLine s (e ∷ h) (marks_after s h i (Ok (Recorded e who)) m)
recorded_stand s h i m e who j t = (and_parts _ (is_placed (place_of j (line s (e ∷ h)))) t).1

slept_stand : (s : Start) (h : List Entry) (i : ℕ) (m : ℕ → Bool) → StandInLine s h m →
    StandInLine s h (marks_after s h i (Ok Sleep) m)
slept_stand s h i m stand j t = stand j (and_parts (m j) (not (eqb j i)) t).0

pub stand_after : (s : Start) (h : List Entry) (i : ℕ) (x : Step) (m : ℕ → Bool) → StandInLine s h m →
    StandInLine s (answer s h i x).1 (marks_after s h i (answer s h i x).0 m)
stand_after s h i x m stand =
    answered s h i x (λ r g. StandInLine s g (marks_after s h i r m)) (λ f. stand)
    (λ q. slept_stand s h i m stand) (λ e room q. recorded_stand s h i m e (named s h e))

pub results_stand : (s : Start) (h : List Entry) (m : ℕ → Bool) (steps : List (ℕ × Step)) →
    StandInLine s h m → StandInLine s (results s h steps).1 (marks s h m steps)
results_stand s h m [] stand = stand
results_stand s h m (first ∷ steps) stand =
    let now = answer s h first.0 first.1 in
    results_stand s now.1 (marks_after s h first.0 now.0 m) steps (stand_after s h first.0 first.1 m stand)

-- An entry changes the marks of two seats alone: of whom it names, and of its own.
placed_some : (o : Option Arrival) → is_placed o ≡ true → (a : Arrival) × (o ≡ Some a)
placed_some None t = cc
placed_some (Some a) t = (a, refl)

placed_last : (i : ℕ) (q : List Arrival) (a : Arrival) → a.seat ≡ i →
    is_placed (place_of i (q ++ a ∷ [])) ≡ true
placed_last i [] a same = rw (eq-eqb a.seat i same) refl
placed_last i (b ∷ q) a same = grind (arith, placed_last i q a same)

lapse_placed : (s : Start) (h : List Entry) (e : Entry) → e.word ≡ word.Lapse →
    is_placed (place_of e.seat (line s (e ∷ h))) ≡ true
lapse_placed s h e w =
    ap (λ q. is_placed (place_of e.seat q)) (line_after s e h
    ∙ ap (λ v. filter (stays e.word e.seat) (line s h) ++ arrivals_by s v e h) w)
    ∙ placed_last e.seat (filter (stays e.word e.seat) (line s h)) (coming_back e.seat) refl

-- a mark behind an entry, by whether its seat is named, made the entry, and stands in line
mark_is : (w : Word) (b named own p : Bool) → (named ≡ true → p ≡ true) → (own ≡ false → b ≡ true → p ≡ true) →
    (own ≡ true → ends_arrival w ≡ false → b ≡ true → p ≡ true) →
    (own ≡ true → ends_arrival w ≡ true → p ≡ false) → (own ≡ true → w ≡ word.Lapse → p ≡ true) →
    ((b || named || (is_lapse w && own)) && p) ≡ (named || cond own (own_mark w b) b)
mark_is w b named own p told other stays goes lapses = grind arith

module _ (s : Start) (h : List Entry) (m : ℕ → Bool) (e : Entry) (stand : StandInLine s h m) where
  abbrev Placed : ℕ → Bool
  Placed k = is_placed (place_of k (line s (e ∷ h)))

  pub remarked_at : (i j : ℕ) → ((k : ℕ) → ready s (e ∷ h) ≡ Some k → Placed k ≡ true) →
      marks_after s h i (Ok (Recorded e (named s h e))) m j ≡ remarked e (named s h e) m j
  remarked_at i j standing =
      mark_is e.word (m j) (is_seat (named s h e) j) (eqb e.seat j) (Placed j)
      (λ t. standing j (named_ready (ready s h) (ready s (e ∷ h)) e.seat j (seat_is _ j t)).0)
      (λ f marked. (let there = placed_some _ (stand j marked) in
      ap is_placed (stays_in_line s e h j there.0 (eqb-false e.seat j f) there.1)))
      (λ t f marked. (let there = placed_some _ (stand j marked) in
      ap is_placed (stays_while s e h j there.0 f there.1)))
      (λ t g. subst (λ k. Placed k ≡ false) (eqb-true e.seat j t) (ap is_placed (gone s e h g)))
      (λ t w. subst (λ k. Placed k ≡ true) (eqb-true e.seat j t) (lapse_placed s h e w))

ready_placed : (s : Start) (h : List Entry) (i : ℕ) → ready s h ≡ Some i →
    is_placed (place_of i (line s h)) ≡ true
ready_placed s h i r = ap is_placed (ready_stands s h i r).1

pub remarked_is : (s : Start) (h : List Entry) (i : ℕ) (m : ℕ → Bool) (e : Entry) → StandInLine s h m →
    marks_after s h i (Ok (Recorded e (named s h e))) m ≡ remarked e (named s h e) m
remarked_is s h i m e stand =
    λ k j. remarked_at s h m e stand i j (ready_placed s (e ∷ h)) k

-- Marks that are right stay so: behind an entry, behind a sleep, and where two starts say the same.
pub opening_right : (k : Header) → AreRight (opening k) [] unmarked
opening_right k = record { stand = λ i t. cc; told = opening_told k }

pub right_recorded : (s : Start) (h : List Entry) (x : Step) (m : ℕ → Bool) (e : Entry) →
    entry_for s h e.seat x ≡ Ok (Some e) → AreRight s h m → AreRight s (e ∷ h) (remarked e (named s h e) m)
right_recorded s h x m e q right =
    subst (AreRight s (e ∷ h)) (remarked_is s h e.seat m e right.stand) (record {
      stand = recorded_stand s h e.seat m e (named s h e);
      told = recorded_told s h e.seat x m e q right.told;
    })

pub right_slept : (s : Start) (h : List Entry) (i : ℕ) (m : ℕ → Bool) → (ready s h ≡ Some i → ⊥) →
    AreRight s h m → AreRight s h (marks_after s h i (Ok Sleep) m)
right_slept s h i m waits right =
    record {
      stand = slept_stand s h i m right.stand;
      told = slept_told s h i m waits right.told;
    }

pub right_alike : (k : Header) (s t : Start) (g h : List Entry) → Alike k s t g h → (m : ℕ → Bool) →
    AreRight (on k s) g m → AreRight (on k t) h m
right_alike k s t g h same m right =
    record {
      stand = λ i marked. ap (λ q. is_placed (place_of i q)) (sym same.stand) ∙ right.stand i marked;
      told = λ i r. right.told i (ready_alike k s t g h same ∙ r);
    }
