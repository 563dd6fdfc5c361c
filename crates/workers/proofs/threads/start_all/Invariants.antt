use Rattle.std.proofs.Common.{◌≡◌, ℕ, ◌+◌, ◌<◌, Some, length, drop, get_or, vec_len, vec_items}
use Rattle.std.specs.List.{slice_get}
use Rattle.workers.proofs.threads.start_all.Given as goal

abbrev pub invariant-loop-passes : goal.invariant-loop-passes
invariant-loop-passes g l =
    (vec_len l.handles ≡ l.place)
    × (drop l.place l.fn.rows.items ≡ l.passes-iterator.rest.items)
    × (l.place + length l.passes-iterator.rest.items ≡ length l.workers)
    × ((i : ℕ) (d : _) → i < l.place → (get_or (vec_items l.handles) i d).promise.gate.now ≡ l.gate)
    × ((i : ℕ) (d : _) → i < l.place → (get_or (vec_items l.handles) i d).promise.seat ≡ i)
    × ((i : ℕ) (d : _) → i < l.place →
    slice_get l.workers i ≡ Some (get_or (vec_items l.handles) i d).promise.worker.now)
    × ((i : ℕ) (d : _) → i < l.place →
    slice_get l.fn.rows.items i ≡ Some (get_or (vec_items l.handles) i d).promise.passes.value)
