-- Threads that wait for each other in a circle.
use Rattle.std.specs.Prelude.{◌≡◌, ℕ, true, List, [], ◌∷◌, ◌++◌, codes, Some, slice_get}
use Rattle.script.specs.Script.{Named, WorkerView}
use Rattle.run_text.specs.declared.link.Link.{Link}
use Rattle.run_text.specs.Lines.{name_by, numbered}
use Rattle.run_text.specs.Waiting.{awaited, call_of, is_holder}
use Rattle.workers.specs.declared.standing.Standing.{Standing}

-- the waiter waits for the object, of which the holder holds something
pub record IsLink (ws : List WorkerView) (ts : List Standing) (l : Link) : Type 0 where
  pub waits : awaited (call_of ws ts l.waiter) ≡ Some l.object
  pub holds : is_holder ws ts l.holder l.object ≡ true

-- links that lead from one thread to another: the holder of each is the waiter of the next
abbrev pub Leads : List WorkerView → List Standing → ℕ → List Link → ℕ → Type 0
Leads ws ts from [] to = from ≡ to
Leads ws ts from (l ∷ ls) to = (l.waiter ≡ from) × IsLink ws ts l × Leads ws ts l.holder ls to

-- links that lead from a thread to itself; without links there is no circle
abbrev pub IsCircle : List WorkerView → List Standing → List Link → Type 0
IsCircle ws ts [] = Unit {0}
IsCircle ws ts (l ∷ ls) = Leads ws ts l.waiter (l ∷ ls) l.waiter

abbrev pub link_line : List Named → Link → List ℕ
link_line objects l =
    numbered (codes "circle: thread ") l.waiter ++ codes " waits for " ++ name_by (slice_get objects l.object)
    ++ numbered (codes ", held by thread ") l.holder ++ codes "\n"

abbrev pub circle_lines : List Named → List Link → List ℕ
circle_lines objects [] = []
circle_lines objects (l ∷ ls) = link_line objects l ++ circle_lines objects ls
