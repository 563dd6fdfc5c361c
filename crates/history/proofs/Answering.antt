-- The history behind a list of steps is legal.
use Rattle.std.proofs.Common.{◌≡◌, ℕ, Bool, cond, List, [], ◌∷◌, Option, Some, None, Result, Ok, Err, refl, sym, subst, arith}
use Rattle.std.proofs.lemmas.Bool.{cond_both}
use Rattle.history.specs.Prelude.{Arrival, Entry, Fault, Answer, Recorded, Step, answer, answer_by, results, is_seat, IsLegal, named, ready, Phase, Idle, InLine, Sleeping, phase, has_room, Start, entry_for, phase_entry, idle_entry, queued_entry, sleeping_entry, back}
use Rattle.history.specs.declared.entry.End.TheVariants as end
use Rattle.history.specs.declared.entry.Word.TheVariants as word
use Rattle.history.specs.declared.fault.Fault.TheVariants as fault
use Rattle.history.proofs.Entering.{by_phase}

-- the entry that a step makes is of its own seat
idle_seat : (s : Start) (h : List Entry) (i : ℕ) (step : Step) → (idle_entry s h i step).seat ≡ i
idle_seat s h i step = grind arith

of_entry : (x e : Entry) (i : ℕ) → Some x ≡ Some e → x.seat ≡ i → e.seat ≡ i
of_entry x e i q p = let same : x ≡ e = cc in subst (λ (y : Entry). y.seat ≡ i) same p

line_seat : (s : Start) (h : List Entry) (i : ℕ) (step : Step) (e : Entry) (a : Arrival) (comes goes : Bool) →
    cond comes (cond goes (Some (back s h i)) None) (queued_entry goes i a step) ≡ Some e → e.seat ≡ i
line_seat s h i step e a comes goes q = grind arith

sleeping_seat : (s : Start) (h : List Entry) (i : ℕ) (step : Step) (e : Entry) →
    sleeping_entry s h i step ≡ Some e → e.seat ≡ i
sleeping_seat s h i step e q = grind arith

pub entry_seat : (s : Start) (h : List Entry) (i : ℕ) (step : Step) (e : Entry) →
    entry_for s h i step ≡ Ok (Some e) → e.seat ≡ i
entry_seat s h i step e q = by (phase s h i) (by_phase s h i step e q)
  where
    by : (p : Phase) → phase_entry s h i step p ≡ Some e → e.seat ≡ i
    by Idle r = of_entry _ e i r (idle_seat s h i step)
    by (InLine a) r = line_seat s h i step e a a.back (is_seat (ready s h) i) r
    by Sleeping r = sleeping_seat s h i step e r

-- a step's entry extends a legal history
pub entry_legal : (s : Start) (h : List Entry) (i : ℕ) (step : Step) (e : Entry) →
    entry_for s h i step ≡ Ok (Some e) → IsLegal s h → IsLegal s (e ∷ h)
entry_legal s h i step e q l =
    let seat = entry_seat s h i step e q in
    ((step, subst (λ j. entry_for s h j step ≡ Ok (Some e)) (sym seat) q), l)

-- the history behind a step, and behind a list of steps
pub answer_legal : (s : Start) (h : List Entry) (i : ℕ) (step : Step) → IsLegal s h →
    IsLegal s (answer s h i step).1
answer_legal s h i step l = by (entry_for s h i step) refl
  where
    P : Result Answer Fault × List Entry → Type 0
    P r = IsLegal s r.1

    by : (r : Result (Option Entry) Fault) → entry_for s h i step ≡ r → P (answer_by s h r)
    by (Err f) q = l
    by (Ok None) q = l
    by (Ok (Some e)) q =
        cond_both (has_room s h e) (Ok (Recorded e (named s h e)), e ∷ h) (Err fault.HistoryFull, h) P
        (λ room. entry_legal s h i step e q l) (λ full. l)

pub results_legal : (s : Start) (h : List Entry) (steps : List (ℕ × Step)) → IsLegal s h →
    IsLegal s (results s h steps).1
results_legal s h [] l = l
results_legal s h (first ∷ steps) l =
    results_legal s (answer s h first.0 first.1).1 steps (answer_legal s h first.0 first.1 l)
