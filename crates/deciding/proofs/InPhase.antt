-- What a step makes, by its fault and by its seat's phase.
use Rattle.std.proofs.Common.{◌≡◌, ℕ, Bool, true, false, not, cond, List, Option, Some, None, Result, Ok, Err, refl, ap}
use Rattle.deciding.specs.Below.{Entry, Fault, Step, is_wrong_mode, is_no_condition, is_bad_amount, Phase, phase, suits, Start, entry_for, phase_entry}
use Rattle.history.specs.declared.fault.Fault.TheVariants as fault
use Rattle.deciding.specs.Checks.{refused_as}
use Rattle.deciding.specs.inner.Checks.{in_phase}

refused_by : {A : Type 0} (a b c : Bool) (r : Result A Fault) (f : Fault) →
    cond a (Some fault.WrongMode) (cond b (Some fault.NoSuchCondition) (cond c (Some fault.BadAmount) None))
    ≡ Some f →
    cond a (Err fault.WrongMode) (cond b (Err fault.NoSuchCondition) (cond c (Err fault.BadAmount) r)) ≡ Err f
refused_by true b c r f q = cc
refused_by false true c r f q = cc
refused_by false false true r f q = cc
refused_by false false false r f q = cc

admitted_by : {A : Type 0} (a b c : Bool) (r : Result A Fault) →
    cond a (Some fault.WrongMode) (cond b (Some fault.NoSuchCondition) (cond c (Some fault.BadAmount) None))
    ≡ None →
    cond a (Err fault.WrongMode) (cond b (Err fault.NoSuchCondition) (cond c (Err fault.BadAmount) r)) ≡ r
admitted_by true b c r q = cc
admitted_by false true c r q = cc
admitted_by false false true r q = cc
admitted_by false false false r q = refl

-- a step that the object doesn't have
pub entry_refused : (s : Start) (h : List Entry) (i : ℕ) (step : Step) (f : Fault) →
    refused_as s.header step ≡ Some f → entry_for s h i step ≡ Err f
entry_refused s h i step f q =
    refused_by (is_wrong_mode s.header.object step) (is_no_condition s.header step)
    (is_bad_amount s.header.object step) (in_phase s h i step (phase s h i)) f q

-- one that it has
pub entry_admitted : (s : Start) (h : List Entry) (i : ℕ) (step : Step) →
    refused_as s.header step ≡ None → entry_for s h i step ≡ in_phase s h i step (phase s h i)
entry_admitted s h i step q =
    admitted_by (is_wrong_mode s.header.object step) (is_no_condition s.header step)
    (is_bad_amount s.header.object step) (in_phase s h i step (phase s h i)) q

-- what an admitted step makes that suits its seat's phase
pub in_phase_made : (s : Start) (h : List Entry) (i : ℕ) (step : Step) (p : Phase) (o : Option Entry) →
    phase s h i ≡ p → suits p step ≡ true → o ≡ phase_entry s h i step p →
    ◌≡◌ {A = Result (Option Entry) Fault} (Ok o) (in_phase s h i step (phase s h i))
in_phase_made s h i step p o is suit made =
    rw is (by (suits p step) suit)
  where
    by : (b : Bool) → b ≡ true → ◌≡◌ {A = Result (Option Entry) Fault} (Ok o)
        (cond (not b) (Err fault.OutOfPhase) (Ok (phase_entry s h i step p)))
    by true t = let ok : Option Entry → Result (Option Entry) Fault = λ x. Ok x in ap ok made
    by false t = absurd (cc)
