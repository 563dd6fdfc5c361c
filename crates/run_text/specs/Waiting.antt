-- In which call a thread waits, for which object, and what it holds meanwhile.
use Rattle.std.specs.Prelude.{ℕ, ◌%◌, ◌==◌, ◌||◌, Bool, false, if◌then◌else◌, List, [], ◌∷◌, length, Option, None, Some, slice_get}
use Rattle.monitor.specs.declared.how.How.TheVariants.{Plain, Interruptible, Timed}
use Rattle.script.specs.Script.{WorkerView}
use Rattle.script.specs.declared.action.Action.TheVariants.{Acquire, AwaitOn}
use Rattle.script.specs.declared.call.Call.{Call}
use Rattle.script.specs.declared.call.Call.TheVariants.{On}
use Rattle.workers.specs.declared.standing.Held.{Held}
use Rattle.workers.specs.declared.standing.Standing.{Standing}

-- the call in which a thread waits, if it waits; calls are counted over all rounds
abbrev pub waiting_call : WorkerView → Standing → Option Call
waiting_call w t = if t.waits then slice_get w.calls (t.ended % length w.calls) else None

-- The object without which a call does not go on: an await has released its lock, and comes back with it. A
-- timed acquire goes on when its time is over.
abbrev pub awaited : Option Call → Option ℕ
awaited (Some (On place (Acquire m n (Timed ms)))) = None
awaited (Some (On place (Acquire m n Plain))) = Some place
awaited (Some (On place (Acquire m n Interruptible))) = Some place
awaited (Some (On place (AwaitOn c how))) = Some place
awaited _ = None

-- whether a thread that waits in a call has released what it held of an object
abbrev pub has_released : Option Call → ℕ → Bool
has_released (Some (On place (AwaitOn c how))) object = place == object
has_released _ object = false

-- whether something of an object is among what a thread held
abbrev pub is_among : List Held → ℕ → Bool
is_among [] object = false
is_among (h ∷ hs) object = (h.object == object) || is_among hs object

-- The same of the thread of a number. A thread that is not there waits for nothing and holds nothing.
abbrev pub call_by : Option WorkerView → Option Standing → Option Call
call_by (Some w) (Some t) = waiting_call w t
call_by (Some w) None = None
call_by None t = None

abbrev pub call_of : List WorkerView → List Standing → ℕ → Option Call
call_of ws ts i = call_by (slice_get ws i) (slice_get ts i)

abbrev pub held_by : Option Standing → List Held
held_by (Some t) = t.held.items
held_by None = []

abbrev pub is_holder : List WorkerView → List Standing → ℕ → ℕ → Bool
is_holder ws ts i object =
    if has_released (call_of ws ts i) object then false else is_among (held_by (slice_get ts i)) object
