-- The lines after the first one of a history text: those of a base, and entries after them.
use Rattle.std.specs.Prelude.{◌≡◌, ℕ, ◌+◌, ◌≤◌, if◌then◌else◌, List, [], ◌∷◌, ◌++◌, length, map}
use Rattle.std.specs.List.{AllByRecursion}
use Rattle.history_text.specs.Below.{Entry, Base, ends_call, IsBaseOf}
use Rattle.history_text.specs.declared.base_line.BaseLine.{BaseLine}
use Rattle.history_text.specs.declared.base_line.BaseLine.TheVariants.{Folded, Released, CountedDown, Seat}
use Rattle.history_text.specs.declared.place.Head.{Head}
use Rattle.history_text.specs.BaseLines.{base_line}
use Rattle.history_text.specs.EntryLines.{HasLine, counts_line, entry_line}
use Rattle.history_text.specs.HistoryLines.{head_of, lines_told}

-- A line of a base, or an entry with its number.
pub data Line : Type 0 where
  Based : (x : BaseLine) → Line
  Entered : (number : ℕ) → (e : Entry) → Line

abbrev pub line_text : Line → List ℕ
line_text (Based x) = base_line x
line_text (Entered number e) = entry_line number e

-- ---- what lines count

-- the number of entries that a line stands for
abbrev pub entries_told : Line → ℕ
entries_told (Based (Folded t)) = t
entries_told (Based (Released t u)) = t
entries_told (Based (CountedDown t q)) = t
entries_told (Based x) = 0
entries_told (Entered number e) = 1

-- the number of calls that ended by them
abbrev pub calls_told : Line → ℕ
calls_told (Based (Seat i has)) = has.calls
calls_told (Based x) = 0
calls_told (Entered number e) = if ends_call e.word then 1 else 0

abbrev pub sum_of : (Line → ℕ) → List Line → ℕ
sum_of f [] = 0
sum_of f (x ∷ xs) = f x + sum_of f xs

-- the end line: how many entries there are, with the folded ones, and how many calls ended
abbrev pub end_of : List Line → List ℕ
end_of lines = counts_line (sum_of entries_told lines) (sum_of calls_told lines)

-- ---- the lines of a history

-- entries with their numbers, from n on
abbrev pub numbered : ℕ → List Entry → List Line
numbered n [] = []
numbered n (e ∷ es) = Entered n e ∷ numbered (n + 1) es

-- the lines of a base, and of entries after it, the oldest first
abbrev pub lines_on : Base → List Entry → List Line
lines_on b es = map Based (lines_told b) ++ numbered b.entries es

-- A history with this first line: entries of its object's seats, at most as many as its cap, on the opening
-- base or a good one.
pub record IsHistoryOf (h : Head) (b : Base) (es : List Entry) : Type 0 where
  pub base : IsBaseOf h.header b
  pub head : head_of b ≡ h
  pub few : length es ≤ h.header.cap
  pub each : AllByRecursion (HasLine h.header) es

-- there is a history whose lines begin with these
abbrev pub SomeBeginsSo : Head → List Line → Type 0
SomeBeginsSo h lines =
    (b : Base) × (es : List Entry) × (more : List Line) × IsHistoryOf h b es × (lines_on b es ≡ lines ++ more)

-- there is a history with these lines
abbrev pub SomeHas : Head → List Line → Type 0
SomeHas h lines = (b : Base) × (es : List Entry) × IsHistoryOf h b es × (lines_on b es ≡ lines)
