-- One who awaits sleeps on or is on its way back while others' entries come, and what its steps make.
use Rattle.std.proofs.Common.{◌≡◌, ◌≢◌, ◌⊎◌, inl, inr, ℕ, Bool, true, false, cond, List, [], ◌∷◌, ◌++◌, map, take, drop, Option, Some, None, Result, Ok, refl, ap, ◌∙◌, subst, arith, eq-eqb, ne_eqb}
use Rattle.history.proofs.OneWait.{last_sleep_own}
use Rattle.std.proofs.lemmas.Bool.Decides.{nat_tests}
use Rattle.history.specs.Prelude.{Arrival, End, Entry, Word, Fault, Step, Look, Expire, Interrupt, SleepsAs, ReturnsAs, AwaitsAs, signalled, lapsed, back_from, lapse_from, is_seat, ends_arrival, line, arrivals_by, place_of, coming_back, ready, waits, was_owed, sleepers, sleepers_after, sleep_after, sleeps_below, last_sleep, has, without, Start, Sleep, entry_for, sleeping_entry, lapse}
use Rattle.history.specs.declared.entry.End.TheVariants as end
use Rattle.history.specs.declared.entry.Word.TheVariants as word
use Rattle.history.proofs.Entering.{KnownBy, known}
use Rattle.history.proofs.SleepLemmas.{last_sleep_other, sleepers_here, sleeps_there, idle_parts}
use Rattle.history.proofs.Staying.{stays_in_line, arrives_by, arrives_itself}
use Rattle.history.proofs.Times.{times-append, times-take_drop, times-without_other, has_once, has_not, once_has}

-- a wait on a condition lapses by a timeout or by an interrupt
abbrev pub LapsesBy : Step → End → Type 0
LapsesBy Expire how = how ≡ end.Timeout
LapsesBy Interrupt how = how ≡ end.Interrupt
LapsesBy _ how = ⊥

-- What a step of a seat within an await makes: nothing, the end of its await, or its lapse. After a lapse the
-- seat is on its way back.
pub data AwaitMakes (s : Start) (h : List Entry) (i : ℕ) (w : Sleep) (step : Step) (made : Option Entry)
    : Type 0 where
  sleeps_on : made ≡ None → AwaitMakes s h i w step made
  comes_back : ReturnsAs s h i w → made ≡ Some (back_from i w) → AwaitMakes s h i w step made
  lapses : (how : End) → LapsesBy step how → made ≡ Some (lapse_from i w how) → SleepsAs s h i w →
      ReturnsAs s (lapse_from i w how ∷ h) i (lapsed w how) → AwaitMakes s h i w step made

-- one of a list of those who come back is on its way back, and another is not among them
comes : (i : ℕ) (xs : List ℕ) → has i xs ≡ true → place_of i (map coming_back xs) ≡ Some (coming_back i)
comes i [] t = cc
comes i (x ∷ xs) t = grind (arith, nat_tests, comes i xs)

pub comes_not : (i : ℕ) (xs : List ℕ) → has i xs ≡ false → place_of i (map coming_back xs) ≡ None
comes_not i [] t = refl
comes_not i (x ∷ xs) t = grind (arith, comes_not i xs)

-- an entry of another seat
returns_other : (s : Start) (e : Entry) (h : List Entry) (i : ℕ) (w : Sleep) → e.seat ≢ i →
    ReturnsAs s h i w →
    ReturnsAs s (e ∷ h) i w
returns_other s e h i w ne r = record {
  place = stays_in_line s e h i (coming_back i) ne r.place;
  saved = last_sleep_other s e h i ne ∙ r.saved;
}

-- what an entry makes of a sleeper of a condition: it arrives to come back, or sleeps on
abbrev Moves : Start → Entry → List Entry → ℕ → ℕ → Word → Type 0
Moves s e h i c w =
    (place_of i (arrivals_by s w e h) ≡ Some (coming_back i))
    ⊎ ((place_of i (arrivals_by s w e h) ≡ None)
    × (e.at ≡ c → has i (sleepers_after w e.seat e.n (sleepers s h c)) ≡ true))

other_place : (i : ℕ) (a : Arrival) → a.seat ≢ i → place_of i (a ∷ []) ≡ None
other_place i a ne = rw (ne_eqb a.seat i ne) refl

moved_or_left : (i n : ℕ) (xs : List ℕ) → has i (take n xs) ≡ false → has i xs ≡ true →
    has i (drop n xs) ≡ true
moved_or_left i n xs out t =
    once_has i (drop n xs) (omega (arith, has_not i (take n xs) out, has_once i xs t, times-take_drop i n xs))

moves : (s : Start) (e : Entry) (h : List Entry) (i c : ℕ) → e.seat ≢ i → has i (sleepers s h c) ≡ true →
    (w : Word) →
    Moves s e h i c w
moves s e h i c ne t word.Signal = by (has i (take e.n (sleepers s h e.at))) refl
  where
    by : (b : Bool) → has i (take e.n (sleepers s h e.at)) ≡ b → Moves s e h i c word.Signal
    by true u = inl (comes i (take e.n (sleepers s h e.at)) u)
    by false u = inr (
      comes_not i (take e.n (sleepers s h e.at)) u,
      λ same. moved_or_left i e.n (sleepers s h c)
          (subst (λ d. has i (take e.n (sleepers s h d)) ≡ false) same u) t,
    )
moves s e h i c ne t word.SignalAll = by (has i (sleepers s h e.at)) refl
  where
    by : (b : Bool) → has i (sleepers s h e.at) ≡ b → Moves s e h i c word.SignalAll
    by true u = inl (comes i (sleepers s h e.at) u)
    by false u = inr (
      comes_not i (sleepers s h e.at) u,
      λ same. let x = subst (λ d. has i (sleepers s h d) ≡ false) same u in absurd (cc (x, t)),
    )
moves s e h i c ne t word.Await = inr (
  refl,
  λ same. once_has i (sleepers s h c ++ e.seat ∷ [])
      (omega (arith, has_once i (sleepers s h c) t, times-append i (sleepers s h c) (e.seat ∷ []))),
)
moves s e h i c ne t word.Lapse = inr (
  other_place i (coming_back e.seat) ne,
  λ same. once_has i (without e.seat (sleepers s h c))
      (omega (arith, has_once i (sleepers s h c) t, times-without_other i e.seat (sleepers s h c) ne)),
)
moves s e h i c ne t word.Queued =
    inr (other_place i (record { seat = e.seat; mode = e.mode; n = e.n; back = false }) ne, λ same. t)
moves s e h i c ne t _ = inr (refl, λ same. t)

sleeps_other : (s : Start) (e : Entry) (h : List Entry) (i : ℕ) (w : Sleep) → e.seat ≢ i → SleepsAs s h i w →
    AwaitsAs s (e ∷ h) i w
sleeps_other s e h i w ne r = by (moves s e h i w.condition ne r.asleep e.word)
  where
    saved : last_sleep s (e ∷ h) i ≡ w
    saved = last_sleep_other s e h i ne ∙ r.saved

    stays_asleep :
        (e.at ≡ w.condition → has i (sleepers_after e.word e.seat e.n (sleepers s h w.condition)) ≡ true) →
        has i (sleepers s (e ∷ h) w.condition) ≡ true
    stays_asleep there = grind (arith, nat_tests, there, r.asleep)

    by : Moves s e h i w.condition e.word → AwaitsAs s (e ∷ h) i w
    by (inl x) = inr (record { place = arrives_by s e h i ne r.place ∙ x; saved = saved })
    by (inr x) = inl (record {
      place = arrives_by s e h i ne r.place ∙ x.0;
      asleep = stays_asleep x.1;
      condition = r.condition;
      saved = saved;
    })

pub awaits_other : (s : Start) (e : Entry) (h : List Entry) (i : ℕ) (w : Sleep) → e.seat ≢ i →
    AwaitsAs s h i w →
    AwaitsAs s (e ∷ h) i w
awaits_other s e h i w ne (inl r) = sleeps_other s e h i w ne r
awaits_other s e h i w ne (inr r) = inr (returns_other s e h i w ne r)

-- behind its await a seat sleeps
pub falls_asleep : (s : Start) (h : List Entry) (step : Step) (e : Entry) →
    entry_for s h e.seat step ≡ Ok (Some e) →
    e.word ≡ word.Await → SleepsAs s (e ∷ h) e.seat (signalled e.at e.n)
falls_asleep s h step e made q =
    let k : KnownBy s h e word.Await = subst (KnownBy s h e) q (known s h step e made) in
    let on = k.0 in
    let asleep = sleeps_below s.header.conditions s h e.seat in
    let parts = idle_parts (place_of e.seat (line s h)) asleep on.idle in
    let none : arrivals_by s e.word e h ≡ [] = ap (λ x. arrivals_by s x e h) q in
    let list : sleepers s (e ∷ h) e.at ≡ sleepers s h e.at ++ e.seat ∷ [] =
    sleepers_here s e h ∙ ap (λ x. sleepers_after x e.seat e.n (sleepers s h e.at)) q in
    let p = times-append e.seat (sleepers s h e.at) (e.seat ∷ []) in
    let one = has_once e.seat (e.seat ∷ []) (rw (eq-eqb e.seat e.seat refl) refl) in
    record {
      place = arrives_itself s e h e.seat (ap ends_arrival q) parts.0 ∙ ap (place_of e.seat) none;
      asleep = ap (has e.seat) list
          ∙ once_has e.seat (sleepers s h e.at ++ e.seat ∷ []) (omega (arith, p, one));
      condition = on.condition;
      saved = last_sleep_own s e h ∙ ap (λ x. sleep_after x e (last_sleep s h e.seat)) q;
    }

-- behind its lapse a sleeper is on its way back
pub lapse_returns : (s : Start) (h : List Entry) (i : ℕ) (w : Sleep) (how : End) → SleepsAs s h i w →
    ReturnsAs s (lapse_from i w how ∷ h) i (lapsed w how)
lapse_returns s h i w how r =
    let e = lapse_from i w how in
    record {
      place = arrives_itself s e h i refl r.place ∙ rw (eq-eqb i i refl) refl;
      saved = last_sleep_own s e h ∙ ap (λ (x : Sleep). lapsed x how) r.saved;
    }

-- what one who awaits makes of its steps
pub sleeping_made : (s : Start) (h : List Entry) (i : ℕ) (w : Sleep) (step : Step) → SleepsAs s h i w →
    waits step ≡ true → entry_for s h i step ≡ Ok (sleeping_entry s h i step)
sleeping_made s h i w step r t =
    let asleep = sleeps_there s.header.conditions s h i w.condition r.condition r.asleep in
    grind (arith, t, r.place, asleep)

pub returning_made : (s : Start) (h : List Entry) (i : ℕ) (w : Sleep) (step : Step) → ReturnsAs s h i w →
    waits step ≡ true → entry_for s h i step ≡ Ok (cond (is_seat (ready s h) i) (Some (back_from i w)) None)
returning_made s h i w step r t = grind (arith, t, r.place, r.saved)

-- A step of one who awaits is no fault, and its entry was owed.
pub record AwaitTurn (s : Start) (h : List Entry) (i : ℕ) (w : Sleep) (step : Step) : Type 0 where
  pub made : Option Entry
  pub is : entry_for s h i step ≡ Ok made
  pub makes : AwaitMakes s h i w step made
  pub owed : (e : Entry) → made ≡ Some e → was_owed s.header.object e ≡ true

returning_turn : (s : Start) (h : List Entry) (i : ℕ) (w : Sleep) (step : Step) → ReturnsAs s h i w →
    waits step ≡ true → AwaitTurn s h i w step
returning_turn s h i w step r t = by (is_seat (ready s h) i) (returning_made s h i w step r t)
  where
    by : (b : Bool) → entry_for s h i step ≡ Ok (cond b (Some (back_from i w)) None) → AwaitTurn s h i w step
    by true q = record {
      made = Some (back_from i w);
      is = q;
      makes = comes_back r refl;
      owed = λ e same. cc (same);
    }
    by false q = record { made = None; is = q; makes = sleeps_on refl; owed = λ e same. cc }

sleeping_turn : (s : Start) (h : List Entry) (i : ℕ) (w : Sleep) (step : Step) → SleepsAs s h i w →
    waits step ≡ true → AwaitTurn s h i w step
sleeping_turn s h i w step r t = by step t (sleeping_made s h i w step r t)
  where
    lapsing : (step : Step) (how : End) → LapsesBy step how →
        entry_for s h i step ≡ Ok (Some (lapse s h i how)) →
        AwaitTurn s h i w step
    lapsing step how ends q = record {
      made = Some (lapse_from i w how);
      is = q ∙ ap
          (λ (x : Sleep). (let y : Result (Option Entry) Fault =
          Ok (Some (lapse_from i x how)) in y)) r.saved;
      makes = lapses how ends refl r (lapse_returns s h i w how r);
      owed = λ e same. cc (same);
    }

    by : (step : Step) → waits step ≡ true → entry_for s h i step ≡ Ok (sleeping_entry s h i step) →
        AwaitTurn s h i w step
    by Look t q = record { made = None; is = q; makes = sleeps_on refl; owed = λ e same. cc }
    by Expire t q = lapsing Expire end.Timeout refl q
    by Interrupt t q = lapsing Interrupt end.Interrupt refl q
    by _ t q = cc

pub await_turn : (s : Start) (h : List Entry) (i : ℕ) (w : Sleep) (step : Step) → AwaitsAs s h i w →
    waits step ≡ true → AwaitTurn s h i w step
await_turn s h i w step (inl r) t = sleeping_turn s h i w step r t
await_turn s h i w step (inr r) t = returning_turn s h i w step r t
