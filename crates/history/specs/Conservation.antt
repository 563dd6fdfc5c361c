-- The permits of a semaphore are conserved: only counted releases make new ones.
use Rattle.std.specs.Prelude.{◌≡◌, ℕ, List, pos, ◌+ℤ◌}
use Rattle.history.specs.Types.{Entry, S}
use Rattle.history.specs.Counts.{free, held, total, unheld}
use Rattle.history.specs.Object.{created}
use Rattle.history.specs.Start.{Start}

-- the permits that the seats hold
abbrev pub permits_held : Start → List Entry → ℕ
permits_held s h = total s.header.seats (λ i. held s h i S)

-- the permits held and free are those created and those released by seats that didn't hold them
abbrev pub IsConserved : Start → List Entry → Type 0
IsConserved s h = pos (permits_held s h) +ℤ free s h ≡ created s.header.object +ℤ pos (unheld s h)
