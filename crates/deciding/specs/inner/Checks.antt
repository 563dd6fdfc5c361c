-- The first fault of a step, and what a step makes in its seat's phase.
use Rattle.std.specs.Prelude.{ℕ, not, if◌then◌else◌, List, Option, Result, Ok, Err}
use Rattle.deciding.specs.Below.{Entry, Fault, OutOfPhase, Step, Phase, suits, Start, phase_entry}

-- a step that suits its seat's phase makes the phase's entry
abbrev pub in_phase : Start → List Entry → ℕ → Step → Phase → Result (Option Entry) Fault
in_phase s h i step p = if not (suits p step) then Err OutOfPhase else Ok (phase_entry s h i step p)
