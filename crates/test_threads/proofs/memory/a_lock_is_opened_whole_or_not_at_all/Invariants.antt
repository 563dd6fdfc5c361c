use Rattle.std.proofs.Common.{ℕ, [], reverse}
use Rattle.history.specs.Base.{opening_base}
use Rattle.word_lock.specs.Point.{Agrees}
use Rattle.test_threads.proofs.memory.a_lock_is_opened_whole_or_not_at_all.Given as goal

abbrev pub invariant-loop-refused : goal.invariant-loop-refused
invariant-loop-refused g l =
    (seat : ℕ) → Agrees
    (record { base = opening_base l.notes.header; entries = reverse l.notes.list.items }) seat []
