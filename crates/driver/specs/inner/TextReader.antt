-- What follows the end line of a text.
use Rattle.std.specs.Prelude.{◌≡◌, ◌≢◌, ◌+◌, ℕ, List, [], Option, Some, None, Result, Ok, Err, IfSome}
use Rattle.std.specs.Io.KnownBytes.{IsAtEnd}
use Rattle.driver.specs.Below.{BadLine, StreamFault, Text, ReadFailed, WriteFailed, Memory}

-- what follows the end line after `count` items: nothing, or what makes the next line a bad one
abbrev pub IsAfterEnd : {I : Type 0} → ℕ → Option (List ℕ) → Result (Option I) StreamFault → Type 0
IsAfterEnd count left (Ok (Some item)) = ⊥
IsAfterEnd count left (Ok None) = IsAtEnd left
IsAfterEnd count left (Err (Text fault)) = (fault ≡ BadLine (count + 3)) × IfSome left (λ more. more ≢ [])
IsAfterEnd count left (Err ReadFailed) = Unit {0}
IsAfterEnd count left (Err Memory) = ⊥
IsAfterEnd count left (Err WriteFailed) = ⊥
