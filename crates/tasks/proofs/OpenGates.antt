-- A gate that lets each call through stops nobody.
use Rattle.std.proofs.Common.{◌≡◌, ℕ, suc, Bool, true, List, [], ◌∷◌, inl, inr}
use Rattle.std.proofs.lemmas.Bool.{false≢true}
use Rattle.tasks.specs.Below.{WorkerView, StopsFirst}

abbrev pub lets : ℕ → ℕ → Bool → Type 0
lets worker call answer = answer ≡ true

pub stops_nobody : (seat : ℕ) (ws : List WorkerView) (worker : ℕ) → StopsFirst lets seat ws worker → ⊥
stops_nobody seat [] worker stops = stops
stops_nobody seat (w ∷ ws) worker (inl stopped) = false≢true stopped.1.3
stops_nobody seat (w ∷ ws) worker (inr later) = stops_nobody (suc seat) ws worker later.1
