-- The first fault of objects and workers that make no script.
use Rattle.std.specs.Prelude.{◌≡◌, ℕ, ◌≤◌, List, Some, length, take, slice_get, All}
use Rattle.script.specs.Script.{ScriptView, WorkerView, IsObject, IsCall, IsWorker}
use Rattle.script.specs.declared.fault.ScriptFault.{ScriptFault}
use Rattle.script.specs.declared.fault.ScriptFault.TheVariants.{BadTop, BadObject, BadThread, BadCall}
use Rattle.script.specs.declared.limits.TheConstants.{MOST_CALLS, MOST_OBJECTS, MOST_ROUNDS, MOST_THREADS}

-- all things before this place are good, and the one there isn't
pub record IsFirstBad {T : Type 0} (IsGood : T → Type 0) (things : List T) (place : ℕ) : Type 0 where
  pub before : All IsGood (take place things)
  pub bad : T
  pub here : slice_get things place ≡ Some bad
  pub is_bad : ¬ IsGood bad

-- objects and workers, of each at least one and at most what a script may have
pub record HasTop (s : ScriptView) : Type 0 where
  pub some_object : 1 ≤ length s.objects
  pub few_objects : length s.objects ≤ MOST_OBJECTS
  pub some_worker : 1 ≤ length s.workers
  pub few_workers : length s.workers ≤ MOST_THREADS

-- at least one round, and no more rounds and calls than a thread may have, whatever the calls are
pub record HasRounds (w : WorkerView) : Type 0 where
  pub some_round : 1 ≤ w.repeat
  pub rounds : w.repeat ≤ MOST_ROUNDS
  pub few_calls : length w.calls ≤ MOST_CALLS

-- the fault of one worker, by its number: its rounds, or its first bad call
abbrev pub IsFaultOfWorker : ℕ → ℕ → ℕ → WorkerView → ScriptFault → Type 0
IsFaultOfWorker objects threads thread w (BadThread t) = (t ≡ thread) × ¬ HasRounds w
IsFaultOfWorker objects threads thread w (BadCall t place) =
    (t ≡ thread) × HasRounds w × IsFirstBad (IsCall objects threads) w.calls place
IsFaultOfWorker objects threads thread w _ = ⊥

-- the fault of the first worker that has one
pub record IsFaultOfWorkers (objects threads : ℕ) (ws : List WorkerView) (fault : ScriptFault) : Type 0 where
  pub thread : ℕ
  pub before : All (IsWorker objects threads) (take thread ws)
  pub worker : WorkerView
  pub here : slice_get ws thread ≡ Some worker
  pub is_fault : IsFaultOfWorker objects threads thread worker fault

-- The first fault, in the order in which a text is read: the top, each object, each worker with its calls.
abbrev pub IsFaultOf : ScriptView → ScriptFault → Type 0
IsFaultOf s BadTop = ¬ HasTop s
IsFaultOf s (BadObject place) = HasTop s × IsFirstBad (IsObject (length s.workers)) s.objects place
IsFaultOf s fault = HasTop s × All (IsObject (length s.workers)) s.objects
    × IsFaultOfWorkers (length s.objects) (length s.workers) s.workers fault
