-- How an entry changes the counts, and what it requires of them.
use Rattle.std.specs.Prelude.{Bool, true, false}
use Rattle.frame.specs.Below.{Word, Gave, Counted, Await, Left}

-- The words for which it matters who was ready before. Before a grant it is the seat that is granted.
abbrev pub asks_before : Word → Bool
asks_before Left = true
asks_before Gave = true
asks_before Counted = true
asks_before Await = true
asks_before _ = false
