-- The lines of a steps text.
use Rattle.std.specs.Prelude.{◌≡◌, ℕ, List, ◌++◌, length}
use Rattle.history.specs.Text.{ended, line_of}
use Rattle.steps.specs.CommonSteps.{step_of}
use Rattle.steps.specs.StepLines.{HasAmounts, step_words}
use Rattle.steps.specs.declared.common_step.Common.{Common}

-- the words of a common step and a line break begin the text, and this many bytes follow
abbrev pub BeginsWith : List ℕ → Common × ℕ → Type 0
BeginsWith text found =
    HasAmounts (step_of found.0)
    × ((rest : List ℕ) × (text ≡ ended (line_of (step_words (step_of found.0))) ++ rest)
    × (length rest ≡ found.1))
