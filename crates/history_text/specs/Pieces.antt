-- The text that is written for a history, piece by piece.
use Rattle.std.specs.Prelude.{ℕ, ◌+◌, List, [], ◌∷◌, ◌++◌, length, reverse}
use Rattle.history_text.specs.Below.{Entry, Base, based, calls, ended}
use Rattle.history_text.specs.declared.base_line.BaseLine.{BaseLine}
use Rattle.history_text.specs.BaseLines.{base_line}
use Rattle.history_text.specs.EntryLines.{counts_line, entry_line}
use Rattle.history_text.specs.HistoryLines.{head_line, head_of, lines_told}

-- the lines of a base, each with its break
abbrev pub lines_text : List BaseLine → List ℕ
lines_text [] = []
lines_text (x ∷ xs) = ended (base_line x) ++ lines_text xs

-- the lines of entries, the oldest first, numbered from `number` on
abbrev pub entry_lines : ℕ → List Entry → List ℕ
entry_lines number [] = []
entry_lines number (e ∷ entries) = ended (entry_line number e) ++ entry_lines (number + 1) entries

-- The text of a history on a base, with its entries newest first. It has the first line, the lines of the
-- base and the lines of the entries, whose numbers continue after the folded ones. Its last line counts all
-- entries, also the folded ones, and the calls that they ended.
abbrev pub history_text : Base → List Entry → List ℕ
history_text b h =
    ended (head_line (head_of b)) ++ (lines_text (lines_told b) ++ (entry_lines b.entries (reverse h)
    ++ ended (counts_line (b.entries + length h) (calls (based b) h))))
