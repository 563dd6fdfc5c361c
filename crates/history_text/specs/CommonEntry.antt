-- The most frequent lines of entries: those with amount 1.
use Rattle.std.specs.Prelude.{◌≡◌, ℕ, ◌<◌, List, ◌++◌, length}
use Rattle.history_text.specs.Below.{Entry, End, Mode, Word, IsWritten, ended}
use Rattle.history_text.specs.EntryLines.{entry_line}

-- an entry with amount 1 that concerns no condition
abbrev pub once : ℕ → Word → Mode → End → Entry
once seat w m how = record { seat = seat; word = w; mode = m; n = 1; at = 0; end = how }

-- the line of an entry with this number and of one of the seats begins the text, and this many bytes follow
abbrev pub IsLineAhead : ℕ → ℕ → List ℕ → Entry × ℕ → Type 0
IsLineAhead seats number text found =
    (found.0.seat < seats) × IsWritten found.0
    × ((rest : List ℕ) × (text ≡ ended (entry_line number found.0) ++ rest) × (length rest ≡ found.1))
