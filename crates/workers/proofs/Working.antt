-- What all workers leave.
use Rattle.std.proofs.Common.{◌≡◌, ℕ, suc, ◌+◌, ◌*◌, ◌<◌, ◌≤◌, ◌⊎◌, Bool, true, List, [], ◌∷◌, ◌++◌, length, IfOk, Ok, Err, Result, refl, ap, sym, subst, arith, ◌∙◌, inl, inr, ⊎_elim, get_or}
use Rattle.std.proofs.lemmas.Option.{same_Some}
use Rattle.std.proofs.Math.Nat.{eq-or-lt_of_le, mul-le-mul_right, suc-mul}
use Rattle.workers.specs.Below.{Shown, WorkerView}
use Rattle.workers.specs.Prelude.{RunFault, Memory, GateShut, NotStarted, Unrecorded, Made, rounds, AllMade, WasRefused, IsFaultOfRun, LetsAll, LetsBelow, StopsBelow, StopsFirst, calls_of}
use Rattle.workers.specs.declared.kept.Kept.{Kept}
use Rattle.workers.specs.declared.work.Worked.{Worked}
use Rattle.workers.specs.inner.Keeping.{HaveKept, IsKept}
use Rattle.workers.specs.inner.Results.{Ends, HasStopped, HasWorked, HaveEnded, WorksAt, passes_left}

-- the results of all workers, of which the first has this seat
abbrev pub AllWorked : (ℕ → ℕ → Bool → Type 0) → ℕ → List WorkerView → List (List Shown) → List Worked →
    Type 0
AllWorked answers seat [] [] [] = Unit {0}
AllWorked answers seat (w ∷ ws) (old ∷ olds) (done ∷ dones) =
    HasWorked answers seat w old done × AllWorked answers (suc seat) ws olds dones
AllWorked answers seat _ _ _ = ⊥

at_first : (answers : ℕ → ℕ → Bool → Type 0) (seat : ℕ) (w : WorkerView) (ws : List WorkerView)
    (old : List Shown) (olds : List (List Shown)) (done : Worked) →
    WorksAt answers seat (w ∷ ws) (old ∷ olds) 0 done → HasWorked answers seat w old done
at_first answers seat w ws old olds done at =
    let is = at.seat_is in
    let here : at.seat ≡ seat = omega (arith, is) in
    subst (λ (z : ℕ). HasWorked answers z w old done) here
    (subst (λ (z : WorkerView). HasWorked answers at.seat z old done)
    (sym (same_Some w at.worker at.worker_is))
    (subst (λ (z : List Shown). HasWorked answers at.seat at.worker z done)
    (sym (same_Some old at.old at.old_is))
    at.worked))

at_rest : (answers : ℕ → ℕ → Bool → Type 0) (seat : ℕ) (w : WorkerView) (ws : List WorkerView)
    (old : List Shown) (olds : List (List Shown)) (place : ℕ) (done : Worked) →
    WorksAt answers seat (w ∷ ws) (old ∷ olds) (suc place) done →
    WorksAt answers (suc seat) ws olds place done
at_rest answers seat w ws old olds place done at =
    let is = at.seat_is in
    record {
      worker = at.worker;
      worker_is = at.worker_is;
      old = at.old;
      old_is = at.old_is;
      seat = at.seat;
      seat_is = omega (arith, is);
      worked = at.worked;
    }

-- each worker at its place is all of them
pub all_worked : (answers : ℕ → ℕ → Bool → Type 0) (seat : ℕ) (ws : List WorkerView)
    (olds : List (List Shown))
    (dones : List Worked) → length olds ≡ length ws → length dones ≡ length ws →
    ((i : ℕ) (d : Worked) → i < length ws → WorksAt answers seat ws olds i (get_or dones i d)) →
    AllWorked answers seat ws olds dones
all_worked answers seat [] [] [] rows worked each = tt
all_worked answers seat [] [] (done ∷ dones) rows worked each = absurd (omega (arith, worked))
all_worked answers seat [] (old ∷ olds) dones rows worked each = absurd (omega (arith, rows))
all_worked answers seat (w ∷ ws) [] dones rows worked each = absurd (omega (arith, rows))
all_worked answers seat (w ∷ ws) (old ∷ olds) [] rows worked each = absurd (omega (arith, worked))
all_worked answers seat (w ∷ ws) (old ∷ olds) (done ∷ dones) rows worked each = (
  at_first answers seat w ws old olds done (each 0 done (omega arith)),
  all_worked answers (suc seat) ws olds dones (omega (arith, rows)) (omega (arith, worked))
      (λ i d below.
      at_rest answers seat w ws old olds i (get_or dones i d) (each (suc i) d (omega (arith, below)))),
)

ended_well : (answers : ℕ → ℕ → Bool → Type 0) (seat : ℕ) (w : WorkerView) (old : List Shown)
    (ended : Result Kept RunFault) (new : List Shown) (kept : Kept) → ended ≡ Ok kept →
    Ends answers seat w old ended new →
    ((its : List Unrecorded) × IsKept kept its × Made seat 0 (rounds w.repeat w.calls) old its new)
    × LetsBelow answers seat (calls_of w)
ended_well answers seat w old ended new kept is ends =
    subst (λ (z : Result Kept RunFault). Ends answers seat w old z new) is ends

-- what all workers made and kept
abbrev pub AllKept : ℕ → List WorkerView → List (List Shown) → List Worked → List Unrecorded → Type 0
AllKept seat ws olds dones answers =
    HaveKept dones answers × AllMade seat ws olds (passes_left dones) answers

one_more : (seat : ℕ) (w : WorkerView) (ws : List WorkerView) (old : List Shown) (olds : List (List Shown))
    (done : Worked) (dones : List Worked) (kept : Kept) (its : List Unrecorded) → done.ended ≡ Ok kept →
    IsKept kept its → Made seat 0 (rounds w.repeat w.calls) old its done.passes →
    ((others : List Unrecorded) × AllKept (suc seat) ws olds dones others) →
    (answers : List Unrecorded) × AllKept seat (w ∷ ws) (old ∷ olds) (done ∷ dones) answers
one_more seat w ws old olds done dones kept its ended is made (others, (have, all)) = (
  its ++ others,
  (
    (its, others, subst (λ (z : Result Kept RunFault). IfOk z (λ k. IsKept k its)) (sym ended) is, have, refl),
    (its, others, made, all, refl),
  ),
)

pub all_made : (answers : ℕ → ℕ → Bool → Type 0) (seat : ℕ) (ws : List WorkerView) (olds : List (List Shown))
    (dones : List Worked) → AllWorked answers seat ws olds dones → HaveEnded dones →
    (unrecorded : List Unrecorded) × AllKept seat ws olds dones unrecorded
all_made answers seat [] [] [] worked ended = ([], (refl, refl))
all_made answers seat [] [] (done ∷ dones) worked ended = absurd worked
all_made answers seat [] (old ∷ olds) dones worked ended = absurd worked
all_made answers seat (w ∷ ws) [] dones worked ended = absurd worked
all_made answers seat (w ∷ ws) (old ∷ olds) [] worked ended = absurd worked
all_made answers seat (w ∷ ws) (old ∷ olds) (done ∷ dones) (first, rest) ((kept, is), others) =
    let its = (ended_well answers seat w old done.ended done.passes kept is first.ended).0 in
    one_more seat w ws old olds done dones kept its.0 is its.1 its.2
    (all_made answers (suc seat) ws olds dones rest others)

-- the gate stopped no worker
pub all_let : (answers : ℕ → ℕ → Bool → Type 0) (seat : ℕ) (ws : List WorkerView) (olds : List (List Shown))
    (dones : List Worked) → AllWorked answers seat ws olds dones → HaveEnded dones → LetsAll answers seat ws
all_let answers seat [] [] [] worked ended = tt
all_let answers seat [] [] (done ∷ dones) worked ended = absurd worked
all_let answers seat [] (old ∷ olds) dones worked ended = absurd worked
all_let answers seat (w ∷ ws) [] dones worked ended = absurd worked
all_let answers seat (w ∷ ws) (old ∷ olds) [] worked ended = absurd worked
all_let answers seat (w ∷ ws) (old ∷ olds) (done ∷ dones) (first, rest) ((kept, is), others) = (
  (ended_well answers seat w old done.ended done.passes kept is first.ended).1,
  all_let answers (suc seat) ws olds dones rest others,
)

-- why the first that stopped did, of workers from a seat on
abbrev StopsFor : (ℕ → ℕ → Bool → Type 0) → ℕ → List WorkerView → RunFault → Type 0
StopsFor answers seat ws (GateShut k) = StopsFirst answers seat ws k
StopsFor answers seat ws (NotStarted k) = (k < seat + length ws) × WasRefused k
StopsFor answers seat ws Memory = Unit {0}

first_stops_for : (answers : ℕ → ℕ → Bool → Type 0) (seat : ℕ) (w : WorkerView) (ws : List WorkerView)
    (old : List Shown) (fault : RunFault) (new : List Shown) → Ends answers seat w old (Err fault) new →
    StopsFor answers seat (w ∷ ws) fault
first_stops_for answers seat w ws old (GateShut k) new ends = inl ends
first_stops_for answers seat w ws old (NotStarted k) new ends =
    let is = ends.0 in (omega (arith, is), ends.2)
first_stops_for answers seat w ws old Memory new ends = tt

later_stops_for : (answers : ℕ → ℕ → Bool → Type 0) (seat : ℕ) (w : WorkerView) (ws : List WorkerView)
    (fault : RunFault) → LetsBelow answers seat (calls_of w) → StopsFor answers (suc seat) ws fault →
    StopsFor answers seat (w ∷ ws) fault
later_stops_for answers seat w ws (GateShut k) lets stops = inr (lets, stops)
later_stops_for answers seat w ws (NotStarted k) lets stops =
    let below = stops.0 in (omega (arith, below), stops.1)
later_stops_for answers seat w ws Memory lets stops = tt

stopped_from : (answers : ℕ → ℕ → Bool → Type 0) (seat : ℕ) (ws : List WorkerView) (olds : List (List Shown))
    (dones : List Worked) (fault : RunFault) → AllWorked answers seat ws olds dones → HasStopped fault dones →
    StopsFor answers seat ws fault
stopped_from answers seat [] [] [] fault worked stopped = absurd stopped
stopped_from answers seat [] [] (done ∷ dones) fault worked stopped = absurd worked
stopped_from answers seat [] (old ∷ olds) dones fault worked stopped = absurd worked
stopped_from answers seat (w ∷ ws) [] dones fault worked stopped = absurd worked
stopped_from answers seat (w ∷ ws) (old ∷ olds) [] fault worked stopped = absurd worked
stopped_from answers seat (w ∷ ws) (old ∷ olds) (done ∷ dones) fault (first, rest) (inl ended) =
    first_stops_for answers seat w ws old fault done.passes
    (subst (λ (z : Result Kept RunFault). Ends answers seat w old z done.passes) ended first.ended)
stopped_from answers seat (w ∷ ws) (old ∷ olds) (done ∷ dones) fault (first, rest) (inr (v, ended, others)) =
    later_stops_for answers seat w ws fault
    (ended_well answers seat w old done.ended done.passes v ended first.ended).1
    (stopped_from answers (suc seat) ws olds dones fault rest others)

-- from the first seat on
fault_of_all : (answers : ℕ → ℕ → Bool → Type 0) (ws : List WorkerView) (fault : RunFault) →
    StopsFor answers 0 ws fault → IsFaultOfRun answers ws fault
fault_of_all answers ws (GateShut k) stops = stops
fault_of_all answers ws (NotStarted k) stops = let below = stops.0 in (omega (arith, below), stops.1)
fault_of_all answers ws Memory stops = tt

-- why a run stopped
pub fault_of_run : (answers : ℕ → ℕ → Bool → Type 0) (ws : List WorkerView) (olds : List (List Shown))
    (dones : List Worked) (fault : RunFault) → AllWorked answers 0 ws olds dones →
    (fault ≡ Memory) ⊎ HasStopped fault dones → IsFaultOfRun answers ws fault
fault_of_run answers ws olds dones fault worked (inl memory) = subst (IsFaultOfRun answers ws) (sym memory) tt
fault_of_run answers ws olds dones fault worked (inr stopped) =
    fault_of_all answers ws fault (stopped_from answers 0 ws olds dones fault worked stopped)

-- one call more
pub lets_more : (answers : ℕ → ℕ → Bool → Type 0) (seat n : ℕ) (answer : Bool) → answer ≡ true →
    answers seat n answer → LetsBelow answers seat n → LetsBelow answers seat (n + 1)
lets_more answers seat n answer allowed here lets call below =
    let up : call ≤ n = omega (arith, below) in
    ⊎_elim
    (λ (same : call ≡ n). subst (λ (z : ℕ). answers seat z true) (sym same)
    (subst (answers seat n) allowed here))
    (λ less. lets call less) (eq-or-lt_of_le up)

-- among more calls
pub stops_among : (answers : ℕ → ℕ → Bool → Type 0) (seat n all : ℕ) → n ≤ all → StopsBelow answers seat n →
    StopsBelow answers seat all
stops_among answers seat n all more (call, below, lets, barred) =
    (call, omega (arith, more, below), lets, barred)

-- the calls of one round more
pub calls_more : (rounds calls first len : ℕ) → first ≡ rounds * calls → len ≡ calls →
    first + len ≡ (rounds + 1) * calls
calls_more rounds calls first len is same =
    let up : suc rounds ≡ rounds + 1 = omega arith in
    let more = suc-mul rounds calls in
    let one : first + len ≡ suc rounds * calls = omega (arith, is, same, more) in
    one ∙ ap (λ (z : ℕ). z * calls) up

-- the calls of the rounds before, and of this one
pub calls_within : (rounds repeat calls first len : ℕ) → first ≡ rounds * calls → len ≡ calls →
    rounds < repeat →
    first + len ≤ repeat * calls
calls_within rounds repeat calls first len is same below =
    let more = calls_more rounds calls first len is same in
    let up : rounds + 1 ≤ repeat = omega (arith, below) in
    let all = mul-le-mul_right calls up in
    omega (arith, more, all)
