-- The lines of a history text.
use Rattle.std.specs.Prelude.{ℕ, ◌<◌, List, ◌++◌, codes, decimal}
use Rattle.history_text.specs.Below.{Entry, Header, entry_words, IsWritten, line_of}

-- the number, the seat and the words of an entry
abbrev pub entry_line : ℕ → Entry → List ℕ
entry_line number e = decimal number ++ codes " " ++ decimal e.seat ++ codes " " ++ line_of (entry_words e)

-- how many entries there are, and how many of them end a call
abbrev pub counts_line : ℕ → ℕ → List ℕ
counts_line entries calls = codes "end " ++ decimal entries ++ codes " " ++ decimal calls

-- an entry that has a line in a text with this header
pub record HasLine (h : Header) (e : Entry) : Type 0 where
  pub seat : e.seat < h.seats
  pub written : IsWritten e
