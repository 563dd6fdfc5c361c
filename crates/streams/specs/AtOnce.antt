-- How a text begins.
use Rattle.std.specs.Prelude.{◌≢◌, ℕ, List, ◌++◌}

-- the text doesn't begin with these bytes
abbrev pub BeginsOtherwise : List ℕ → List ℕ → Type 0
BeginsOtherwise beginning text = (rest : List ℕ) → text ≢ beginning ++ rest
