-- Room: what was owed has it, and what is answered keeps it.
use Rattle.std.proofs.Common.{◌≡◌, ℕ, zero, suc, ◌<◌, ◌≤◌, true, List, [], ◌∷◌, Option, Some, None, Result, Ok, Err, refl, arith, le-leb, leb-true}
use Rattle.std.proofs.lemmas.Bool.{cond_both}
use Rattle.std.proofs.lemmas.Bool.Decides.{nat_tests}
use Rattle.history.specs.Prelude.{Answer, Recorded, named, Entry, Word, Fault, Header, Object, Step, answer, answer_by, results, AreSeated, IsLegal, released_by, reserved_by, Fits, has_room, owed, sleepers_owe, was_owed, was_owed_by, Start, opening, entry_for}
use Rattle.history.specs.declared.fault.Fault.TheVariants as fault
use Rattle.history.specs.declared.step.Answer.TheVariants.{Sleep}
use Rattle.history.proofs.Entering.{Known, known}
use Rattle.history.proofs.Sums.{total_nothing}
use Rattle.history.proofs.OneWait.{Waits, waits}
use Rattle.history.proofs.Owing.{owed_known}

-- an entry that was owed reserves nothing, and releases itself
pub owed_releases : (o : Object) (w : Word) (n : ℕ) → was_owed_by o w n ≡ true →
    (reserved_by o w ≡ 0) × (1 ≤ released_by o w n)
owed_releases o w n t = grind (arith, nat_tests)

-- an entry that was owed has room
pub owed_has_room : (s : Start) (e : Entry) (h : List Entry) → Known s h e → Waits s h →
    e.seat < s.header.seats → Fits s h → was_owed s.header.object e ≡ true → has_room s h e ≡ true
owed_has_room s e h known apart seat fits t =
    let r = owed_releases s.header.object e.word e.n t in
    le-leb _ _ (omega (arith, owed_known s e h known apart seat, r.0, r.1, fits))

-- and so has one of a legal history
pub never_lacking : (k : Header) (e : Entry) (h : List Entry) → IsLegal (opening k) (e ∷ h) →
    AreSeated (opening k) (e ∷ h) → Fits (opening k) h → was_owed k.object e ≡ true →
    has_room (opening k) h e ≡ true
never_lacking k e h legal seats =
    owed_has_room (opening k) e h (known (opening k) h legal.0.0 e legal.0.1) (waits k h legal.1) seats.0

-- what holds behind each answer, and that it fits
pub answered : (s : Start) (h : List Entry) (i : ℕ) (step : Step)
    (P : Result Answer Fault → List Entry → Type 0) → ((f : Fault) → P (Err f) h) →
    (entry_for s h i step ≡ Ok None → P (Ok Sleep) h) →
    ((e : Entry) → has_room s h e ≡ true → entry_for s h i step ≡ Ok (Some e) →
    P (Ok (Recorded e (named s h e))) (e ∷ h)) → P (answer s h i step).0 (answer s h i step).1
answered s h i step P refused slept makes = by (entry_for s h i step) refl
  where
    Holds : Result Answer Fault × List Entry → Type 0
    Holds r = P r.0 r.1

    by : (r : Result (Option Entry) Fault) → entry_for s h i step ≡ r → Holds (answer_by s h r)
    by (Err f) q = refused f
    by (Ok None) q = slept q
    by (Ok (Some e)) q =
        cond_both (has_room s h e) (Ok (Recorded e (named s h e)), e ∷ h) (Err fault.HistoryFull, h) Holds
        (λ room. makes e room q) (λ full. refused fault.HistoryFull)

pub answer_fits : (s : Start) (h : List Entry) (i : ℕ) (step : Step) → Fits s h →
    Fits s (answer s h i step).1
answer_fits s h i step fits =
    answered s h i step (λ r g. Fits s g) (λ f. fits) (λ q. fits)
    (λ e room q. (let l = leb-true _ _ room in omega (arith, l)))

pub results_fit : (s : Start) (h : List Entry) (steps : List (ℕ × Step)) → Fits s h →
    Fits s (results s h steps).1
results_fit s h [] fits = fits
results_fit s h (first ∷ steps) fits =
    results_fit s (answer s h first.0 first.1).1 steps (answer_fits s h first.0 first.1 fits)

-- an object owes nothing as it opens
nobody_owes : (n : ℕ) (k : Header) → sleepers_owe n (opening k) [] ≡ 0
nobody_owes zero k = refl
nobody_owes (suc n) k = omega (arith, nobody_owes n k)

pub nothing_owed : (k : Header) → owed (opening k) [] ≡ 0
nothing_owed k = grind (arith, total_nothing k.seats, nobody_owes k.conditions k)

pub opening_fits : (k : Header) → Fits (opening k) []
opening_fits k = omega (arith, nothing_owed k)

pub owed_fits : (k : Header) (steps : List (ℕ × Step)) → Fits (opening k) (results (opening k) [] steps).1
owed_fits k steps = results_fit (opening k) [] steps (opening_fits k)
