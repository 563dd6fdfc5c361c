-- Whom an entry names, and why.
use Rattle.std.specs.Prelude.{ℕ, ◌==◌, if◌then◌else◌, List, ◌∷◌, Option, Some, None}
use Rattle.explaining.specs.Below.{Arrival, Entry, is_seat, first_of, line, ready, Start}
use Rattle.explaining.specs.declared.naming.Naming.{Naming}
use Rattle.explaining.specs.declared.naming.Naming.TheVariants.{NobodyWaits, CannotGo, Own, CouldBefore, Named}

-- the head of the queue could go after an entry of seat i
abbrev pub naming_ready : Option ℕ → ℕ → ℕ → Naming
naming_ready before j i =
    if j == i then Own j else if is_seat before j then CouldBefore j else Named j

-- the arguments are who could go before the entry, the head of the queue after it, and who could go then
abbrev pub naming_by : Option ℕ → Option Arrival → Option ℕ → ℕ → Naming
naming_by before None now i = NobodyWaits
naming_by before (Some a) None i = CannotGo a.seat
naming_by before (Some a) (Some j) i = naming_ready before j i

-- whom an entry names after a history, and why
abbrev pub naming_of : Start → List Entry → Entry → Naming
naming_of s h e = naming_by (ready s h) (first_of (line s (e ∷ h))) (ready s (e ∷ h)) e.seat

-- the seat that is named
abbrev pub seat_named : Naming → Option ℕ
seat_named NobodyWaits = None
seat_named (CannotGo j) = None
seat_named (Own j) = None
seat_named (CouldBefore j) = None
seat_named (Named j) = Some j
