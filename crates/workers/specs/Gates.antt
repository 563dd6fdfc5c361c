-- How far the gate lets workers go, and why a run returned no report.
use Rattle.std.specs.Prelude.{◌≡◌, ◌<◌, ℕ, suc, ◌*◌, ◌⊎◌, Bool, true, false, List, [], ◌∷◌, length}
use Rattle.script.specs.Script.{WorkerView}
use Rattle.workers.specs.declared.fault.RunFault.{RunFault}
use Rattle.workers.specs.declared.fault.RunFault.TheVariants.{Memory, GateShut, NotStarted}
use Rattle.workers.specs.Refused.{WasRefused}

-- how many calls a worker makes
abbrev pub calls_of : WorkerView → ℕ
calls_of w = w.repeat * length w.calls

-- In what follows `answers seat call answer` says that a gate may return this to the worker of a seat before
-- its call with this number.

-- the gate let a worker make all its calls below n
abbrev pub LetsBelow : (ℕ → ℕ → Bool → Type 0) → ℕ → ℕ → Type 0
LetsBelow answers seat n = (call : ℕ) → call < n → answers seat call true

-- the gate let a worker make some of these calls, and refused the next
abbrev pub StopsBelow : (ℕ → ℕ → Bool → Type 0) → ℕ → ℕ → Type 0
StopsBelow answers seat n =
    (call : ℕ) × (call < n) × LetsBelow answers seat call × answers seat call false

-- the gate let each of these workers make all its calls; the first of them has this seat
abbrev pub LetsAll : (ℕ → ℕ → Bool → Type 0) → ℕ → List WorkerView → Type 0
LetsAll answers seat [] = Unit {0}
LetsAll answers seat (w ∷ ws) = LetsBelow answers seat (calls_of w) × LetsAll answers (suc seat) ws

-- the gate refused a call of this worker, and let all workers before it make all their calls
abbrev pub StopsFirst : (ℕ → ℕ → Bool → Type 0) → ℕ → List WorkerView → ℕ → Type 0
StopsFirst answers seat [] k = ⊥
StopsFirst answers seat (w ∷ ws) k =
    ((k ≡ seat) × StopsBelow answers seat (calls_of w))
    ⊎ (LetsBelow answers seat (calls_of w) × StopsFirst answers (suc seat) ws k)

-- why a run of these workers returned no report
abbrev pub IsFaultOfRun : (ℕ → ℕ → Bool → Type 0) → List WorkerView → RunFault → Type 0
IsFaultOfRun answers ws (GateShut k) = StopsFirst answers 0 ws k
IsFaultOfRun answers ws (NotStarted k) = (k < length ws) × WasRefused k
IsFaultOfRun answers ws Memory = Unit {0}
