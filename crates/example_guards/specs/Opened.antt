use Rattle.std.specs.Prelude.{◌≡◌, ℕ, List}
use Rattle.std.specs.List.{All}
use Rattle.frame.specs.Core.{header_of}
use Rattle.history.specs.declared.header.Object.TheVariants.{Latch}
use Rattle.monitor.specs.Lawful.{blank}
use Rattle.monitor.specs.Shown.{Shown, opening_passes}
use Rattle.word_lock.specs.Ticket.{LockId}

-- A latch with this count for five threads, and all its passes as they are opened.
abbrev pub IsOpened : ℕ → LockId → List Shown → Type 0
IsOpened count latch passes =
    (latch.header ≡ header_of (Latch count) 5 0 100)
    × (passes ≡ opening_passes latch (blank latch.header) 0 5)
    × All (λ (p : Shown). p.lock ≡ latch) passes
