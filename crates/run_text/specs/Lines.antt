-- The lines of a standing text.
use Rattle.std.specs.Prelude.{ℕ, suc, if◌then◌else◌, List, [], ◌∷◌, ◌++◌, codes, decimal, Option, None, Some, slice_get}
use Rattle.history.specs.Text.{line_of}
use Rattle.script.specs.CallText.{action_words}
use Rattle.script.specs.Script.{Named, WorkerView}
use Rattle.script.specs.declared.call.Call.{Call}
use Rattle.script.specs.declared.call.Call.TheVariants.{On, Interrupt}
use Rattle.run_text.specs.Waiting.{has_released, waiting_call}
use Rattle.workers.specs.Gates.{calls_of}
use Rattle.workers.specs.declared.standing.Held.{Held}
use Rattle.workers.specs.declared.standing.Standing.{Standing}

-- words and a number
abbrev pub numbered : List ℕ → ℕ → List ℕ
numbered words number = words ++ decimal number

abbrev pub first_line : ℕ → List ℕ
first_line ms =
    numbered (codes "not ended after ") ms ++ codes " milliseconds; a thread may be about to go on\n"

abbrev pub name_by : Option Named → List ℕ
name_by None = []
name_by (Some o) = o.0

-- the words of a call, as a script spells it
abbrev pub call_words : List Named → Call → List (List ℕ)
call_words objects (On place action) = name_by (slice_get objects place) ∷ action_words action
call_words objects (Interrupt thread) = codes "interrupt" ∷ decimal thread ∷ []

abbrev pub waiting_words : List Named → Option Call → List ℕ
waiting_words objects None = []
waiting_words objects (Some call) = codes " waits in " ++ line_of (call_words objects call)

-- a thread, how many of its calls have ended, of how many, and the call in which it waits
abbrev pub thread_line : List Named → ℕ → WorkerView → Standing → List ℕ
thread_line objects thread w t =
    numbered (codes "thread ") thread ++ numbered (codes " calls ") t.ended ++ numbered (codes " of ") (calls_of w)
    ++ waiting_words objects (waiting_call w t) ++ codes "\n"

-- what a thread holds of an object
abbrev pub held_line : List Named → ℕ → Held → List ℕ
held_line objects thread h =
    numbered (codes "thread ") thread ++ codes " holds " ++ name_by (slice_get objects h.object)
    ++ numbered (codes " x ") h.exclusive ++ numbered (codes " s ") h.shared ++ codes "\n"

-- what a thread that waits in this call holds of what it held before it
abbrev pub held_lines : List Named → ℕ → Option Call → List Held → List ℕ
held_lines objects thread call [] = []
held_lines objects thread call (h ∷ hs) =
    (if has_released call h.object then [] else held_line objects thread h) ++ held_lines objects thread call hs

-- the lines of threads, of which the first has this number
abbrev pub thread_lines : List Named → ℕ → List WorkerView → List Standing → List ℕ
thread_lines objects thread (w ∷ ws) (t ∷ ts) =
    thread_line objects thread w t ++ held_lines objects thread (waiting_call w t) t.held.items
    ++ thread_lines objects (suc thread) ws ts
thread_lines objects thread [] ts = []
thread_lines objects thread (w ∷ ws) [] = []
