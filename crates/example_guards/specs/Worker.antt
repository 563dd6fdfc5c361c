use Rattle.std.specs.Prelude.{◌≡◌}
use Rattle.word_lock.specs.Ticket.{LockId}
use Rattle.example_guards.specs.declared.latch_workers.worker.Worker.{Worker}

-- The passes of a worker are of these two latches.
abbrev pub IsAt : LockId → LockId → Worker → Type 0
IsAt start end w = (w.start.lock ≡ start) × (w.end.lock ≡ end)
