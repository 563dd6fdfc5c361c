-- Gathering lines for a sink.
use Rattle.std.specs.Prelude.{◌≡◌, ℕ, List, ◌++◌, Option, Result, Ok, Err}
use Rattle.std.specs.Io.KnownBytes.{Appends}
use Rattle.driver.specs.Below.{DeviceFailed, AppendsFront}

-- the bytes that aren't written yet, and for how many more there is room
pub record Gathered : Type 0 where
  pub bytes : List ℕ
  pub room : ℕ

-- Bytes were added to the gathered ones, and the first of all these were written.
pub record IsGathered (held : Option (List ℕ)) (old : List ℕ)
    (after : Option (List ℕ)) (new added : List ℕ) : Type 0 where
  pub written : List ℕ
  pub appends : Appends held after written
  pub parts : old ++ added ≡ written ++ new

-- what adding bytes leaves; on an error only the first bytes may have been written
abbrev pub Gathers : Option (List ℕ) → List ℕ → Result (Unit {0}) DeviceFailed → Option (List ℕ) → List ℕ →
    List ℕ → Type 0
Gathers held old (Ok done) after new added = IsGathered held old after new added
Gathers held old (Err failed) after new added = AppendsFront held after (old ++ added)
