use Rattle.std.specs.Prelude.{◌≡◌}
use Rattle.word_lock.specs.Ticket.{LockId}
use Rattle.example_guards.specs.declared.connection_pool.clients.Client.{Client}

-- The pass of a client is of this pool.
abbrev pub IsOf : LockId → Client → Type 0
IsOf lock c = c.pass.lock ≡ lock
