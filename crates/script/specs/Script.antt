-- Scripts, and the limits that each script meets.
use Rattle.std.specs.Prelude.{◌≡◌, ℕ, ◌<◌, ◌≤◌, List, map, length, All, String, string_bytes}
use Rattle.std.specs.declared.alloc.Global.{Global}
use Rattle.history.specs.declared.header.Header.{Header}
use Rattle.history.specs.Header.{IsInRange}
use Rattle.script.specs.declared.limits.TheConstants.{MOST_CALLS, MOST_OBJECTS, MOST_ROUNDS, MOST_THREADS}
use Rattle.script.specs.Name.{IsName}
use Rattle.script.specs.declared.call.Call.{Call}
use Rattle.script.specs.declared.call.Call.TheVariants.{On, Interrupt}

-- one thread: its calls, and how often it repeats them
pub record WorkerView : Type 0 where
  pub repeat : ℕ
  pub calls : List Call

-- a name, as bytes, and the header of its object
abbrev pub Named : Type 0
Named = List ℕ × Header

pub record ScriptView : Type 0 where
  pub objects : List Named
  pub workers : List WorkerView

-- the names and headers of a map's entries
abbrev pub named : List (String Global × Header) → List Named
named = map (λ e. (string_bytes e.0, e.1))

-- a call of one of the objects, or the interrupt of one of the threads, by their numbers
abbrev pub IsCall : ℕ → ℕ → Call → Type 0
IsCall objects threads (On place action) = place < objects
IsCall objects threads (Interrupt thread) = thread < threads

-- at least 1 round, of calls
pub record IsWorker (objects threads : ℕ) (w : WorkerView) : Type 0 where
  pub some_round : 1 ≤ w.repeat
  pub rounds : w.repeat ≤ MOST_ROUNDS
  pub few_calls : length w.calls ≤ MOST_CALLS
  pub calls : All (IsCall objects threads) w.calls

-- its name is good, its header is in range, and its object has as many seats as there are threads
pub record IsObject (threads : ℕ) (o : Named) : Type 0 where
  pub name : IsName o.0
  pub in_range : IsInRange o.1
  pub seats : o.1.seats ≡ threads

-- at least 1 object, and 1 worker
pub record IsScript (s : ScriptView) : Type 0 where
  pub some_object : 1 ≤ length s.objects
  pub few_objects : length s.objects ≤ MOST_OBJECTS
  pub some_worker : 1 ≤ length s.workers
  pub few_workers : length s.workers ≤ MOST_THREADS
  pub objects : All (IsObject (length s.workers)) s.objects
  pub workers : All (IsWorker (length s.objects) (length s.workers)) s.workers
