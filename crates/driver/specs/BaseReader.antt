-- Reading a base from a source, line by line.
use Rattle.std.specs.Prelude.{◌≡◌, ℕ, ◌≤◌, List, Option, IfSome, IsSomeAnd}
use Rattle.std.specs.Io.KnownBytes.{prepend_known}
use Rattle.driver.specs.Below.{Entry, Base, based, MOST_LINES, Head, Place, AreEntriesRead}

-- the text's base was read, and these entries after it, the oldest first; the reader's position is after them
abbrev pub EntriesBehind : Option (List ℕ) → Head → Base → List Entry → Place → List ℕ → Option (List ℕ) →
    Type 0
EntriesBehind text h b es place bytes left =
    IfSome text (λ t. IsSomeAnd (prepend_known bytes left) (AreEntriesRead t h b es place))

-- a position right after a base
pub record IsPlacedBehind (b : Base) (place : Place) : Type 0 where
  pub lines : place.lines ≤ MOST_LINES
  pub folded : place.folded ≡ b.entries
  pub count : place.count ≡ 0
  pub calls : place.calls ≡ (based b).calls
