-- That a waiter was woken: an entry named it since it could go, or was its own.
use Rattle.std.specs.Prelude.{◌≡◌, ◌⊎◌, ℕ, List, [], ◌∷◌, Some}
use Rattle.laws.specs.Below.{Entry, named, ready, Start}

-- among the newest entries after which the seat was the head of the queue and could go, one named it or was
-- its own
abbrev pub IsWoken : Start → List Entry → ℕ → Type 0
IsWoken s [] i = ⊥
IsWoken s (e ∷ h) i = (named s h e ≡ Some i) ⊎ (e.seat ≡ i) ⊎ ((ready s h ≡ Some i) × IsWoken s h i)
