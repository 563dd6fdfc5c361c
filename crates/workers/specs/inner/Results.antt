-- The results of workers, one by one and added up.
use Rattle.std.specs.Prelude.{◌≡◌, ◌≤◌, ◌<◌, ℕ, ◌+◌, ◌*◌, ◌⊎◌, Bool, List, [], ◌∷◌, Some, Result, Ok, Err, IfOk, map, slice_get}
use Rattle.workers.specs.Below.{Shown, WorkerView, MOST_CALLS, MOST_ROUNDS}
use Rattle.workers.specs.declared.fault.RunFault.{RunFault}
use Rattle.workers.specs.declared.fault.RunFault.TheVariants.{Memory, GateShut, NotStarted}
use Rattle.workers.specs.declared.kept.Kept.{Kept}
use Rattle.workers.specs.declared.unrecorded.Unrecorded.{Unrecorded}
use Rattle.workers.specs.declared.work.Worked.{Worked}
use Rattle.workers.specs.Calls.{Made, rounds}
use Rattle.workers.specs.Refused.{WasRefused}
use Rattle.workers.specs.Gates.{LetsBelow, StopsBelow, calls_of}
use Rattle.workers.specs.inner.Homes.{homes}
use Rattle.workers.specs.inner.Keeping.{IsKept}

-- all its calls were made; or it stopped, at a gate or before its first call, and then its passes are those
-- before
abbrev pub Ends : (ℕ → ℕ → Bool → Type 0) → ℕ → WorkerView → List Shown → Result Kept RunFault → List Shown →
    Type 0
Ends answers seat w old (Ok kept) new =
    ((its : List Unrecorded) × IsKept kept its × Made seat 0 (rounds w.repeat w.calls) old its new)
    × LetsBelow answers seat (calls_of w)
Ends answers seat w old (Err (GateShut k)) new = (k ≡ seat) × StopsBelow answers seat (calls_of w)
Ends answers seat w old (Err (NotStarted k)) new = (k ≡ seat) × (new ≡ old) × WasRefused k
Ends answers seat w old (Err Memory) new = ⊥

-- the greatest number of calls of a worker
abbrev pub most_calls : ℕ
most_calls = MOST_ROUNDS * MOST_CALLS

-- the result of the worker of a seat
pub record HasWorked (answers : ℕ → ℕ → Bool → Type 0) (seat : ℕ) (w : WorkerView) (old : List Shown)
    (done : Worked) : Type 0 where
  pub same : homes done.passes ≡ homes old
  pub ended : Ends answers seat w old done.ended done.passes
  pub few : IfOk done.ended (λ kept. kept.count ≤ most_calls)

-- the same for the worker at a place, if the first has this seat
pub record WorksAt (answers : ℕ → ℕ → Bool → Type 0) (first : ℕ) (ws : List WorkerView)
    (olds : List (List Shown)) (place : ℕ) (done : Worked) : Type 0 where
  pub worker : WorkerView
  pub worker_is : slice_get ws place ≡ Some worker
  pub old : List Shown
  pub old_is : slice_get olds place ≡ Some old
  pub seat : ℕ
  pub seat_is : seat ≡ first + place
  pub worked : HasWorked answers seat worker old done

-- all workers made all their calls
abbrev pub HaveEnded : List Worked → Type 0
HaveEnded [] = Unit {0}
HaveEnded (done ∷ dones) = ((kept : Kept) × (done.ended ≡ Ok kept)) × HaveEnded dones

-- the first worker that stopped did so for this reason
abbrev pub HasStopped : RunFault → List Worked → Type 0
HasStopped fault [] = ⊥
HasStopped fault (done ∷ dones) =
    (done.ended ≡ Err fault) ⊎ ((kept : Kept) × (done.ended ≡ Ok kept) × HasStopped fault dones)

abbrev pub passes_left : List Worked → List (List Shown)
passes_left = map (λ (done : Worked). done.passes)

-- why the threads of n workers left no results: no gate refused a call
abbrev pub IsRefused : ℕ → RunFault → Type 0
IsRefused n (GateShut k) = ⊥
IsRefused n (NotStarted k) = (k < n) × WasRefused k
IsRefused n Memory = Unit {0}
