-- What the next line of a history text spells.
use Rattle.std.specs.Prelude.{
  ◌≡◌,
  ◌≢◌,
  ℕ,
  ◌+◌,
  ◌≤◌,
  ◌<◌,
  ◌^◌,
  true,
  if◌then◌else◌,
  List,
  [],
  ◌∷◌,
  ◌++◌,
  length,
  map,
  Option,
  Some,
  None,
  Result,
  Ok,
  Err,
}
use Rattle.history_text.specs.Below.{Entry, Header, Base, or_opening, ends_call, MOST_FOLDED, HasNoBreak, ended, ReadFault, LINE_BYTES, TextFault, Begins, IsReading}
use Rattle.streams.specs.Reading as reading
use Rattle.history_text.specs.declared.base_line.BaseLine.{BaseLine}
use Rattle.history_text.specs.declared.place.Head.{Head}
use Rattle.history_text.specs.declared.place.Place.{Place}
use Rattle.history_text.specs.BaseLineLimits.{IsBaseLine}
use Rattle.history_text.specs.BaseLines.{base_line}
use Rattle.history_text.specs.EntryLines.{HasLine, counts_line, entry_line}
use Rattle.history_text.specs.HistoryLines.{lines_told}
use Rattle.history_text.specs.ToldBases.{GoodBeginsSo, GoodHas}
use Rattle.history_text.specs.TextLines.{Based, IsHistoryOf, calls_told, lines_on, sum_of}
use Rattle.history_text.specs.HistoryText.{history_form}

-- the bytes begin with a line, and this many bytes follow it
abbrev pub LineAhead : List ℕ → List ℕ → ℕ → Type 0
LineAhead rest line left = (after : List ℕ) × (rest ≡ ended line ++ after) × (length after ≡ left)

-- the first line of these bytes is whole, and no longer than a good one
pub record HasShortLine (rest : List ℕ) : Type 0 where
  pub line : List ℕ
  pub after : List ℕ
  pub parts : rest ≡ line ++ 10 ∷ after
  pub whole : HasNoBreak line
  pub few : length line < LINE_BYTES

-- the first line of these bytes isn't a line of a base
abbrev pub LacksBaseLine : List ℕ → Type 0
LacksBaseLine rest =
    (line : List ℕ) (after : List ℕ) (x : BaseLine) → rest ≡ line ++ 10 ∷ after → HasNoBreak line →
    IsBaseLine x → line ≢ base_line x

-- ---- the lines of a base

-- A base that is being read: the lines of it that were read.
pub record LinesRead : Type 0 where
  pub header : Header
  pub lines : List BaseLine

-- The next line of a base of which these lines were read. Either a good base begins with these lines and this
-- one; or it isn't a line of a base, and these lines are those of a good base; or it is bad, whatever is
-- before.
abbrev pub IsBaseLineNext : LinesRead → List ℕ → Result (Option (BaseLine × ℕ)) TextFault → Type 0
IsBaseLineNext read rest (Ok (Some found)) =
    GoodBeginsSo read.header (read.lines ++ found.0 ∷ []) × LineAhead rest (base_line found.0) found.1
IsBaseLineNext read rest (Ok None) = GoodHas read.header read.lines × LacksBaseLine rest
IsBaseLineNext read rest (Err fault) =
    (text : List ℕ) (h : Head) → h.is_based ≡ true → h.header ≡ read.header →
    Begins history_form text h (map Based read.lines) rest → IsReading history_form text (Err fault)

-- the same, if the line is taken
abbrev pub IsBaseLineTaken : LinesRead → List ℕ → Result (Option ℕ) TextFault → LinesRead → Type 0
IsBaseLineTaken old rest (Ok (Some left)) new =
    (x : BaseLine) × (new.lines ≡ old.lines ++ x ∷ []) × IsBaseLineNext old rest (Ok (Some (x, left)))
IsBaseLineTaken old rest (Ok None) new = (new ≡ old) × IsBaseLineNext old rest (Ok None)
IsBaseLineTaken old rest (Err fault) new = (new ≡ old) × IsBaseLineNext old rest (Err fault)

-- ---- entries after a base

abbrev pub behind : Place → Entry → Place
behind p e =
    record {
      lines = p.lines;
      folded = p.folded;
      count = p.count + 1;
      calls = p.calls + (if ends_call e.word then 1 else 0);
    }

-- The numbers of a position are those of a base and entries after it.
pub record IsPlaceOf (b : Base) (es : List Entry) (p : Place) : Type 0 where
  pub lines : p.lines ≡ length (lines_told b)
  pub folded : p.folded ≡ b.entries
  pub count : p.count ≡ length es
  pub calls : p.calls ≡ sum_of calls_told (lines_on b es)

-- A base and entries after it, the oldest first, were read from a text, and this follows them.
pub record AreEntriesRead (text : List ℕ) (h : Head) (b : Base) (es : List Entry) (p : Place)
    (rest : List ℕ) : Type 0 where
  pub history : IsHistoryOf h b es
  pub begins : Begins history_form text h (lines_on b es) rest
  pub place : IsPlaceOf b es p
  pub behind : h.is_based ≡ true → es ≡ [] → LacksBaseLine rest

-- what the next line at a position spells: an entry with its number, or that there are no more, or a fault;
-- whatever base and entries are before
abbrev pub IsEntryBehind : Header → Place → List ℕ → Result (Option (Entry × ℕ)) TextFault → Type 0
IsEntryBehind k p rest (Ok (Some found)) =
    HasLine k found.0 × LineAhead rest (entry_line (p.folded + p.count) found.0) found.1
IsEntryBehind k p rest (Ok None) = rest ≡ ended (counts_line (p.folded + p.count) p.calls)
IsEntryBehind k p rest (Err fault) =
    (text : List ℕ) (h : Head) (b : Base) (es : List Entry) → h.header ≡ k →
    AreEntriesRead text h b es p rest → IsReading history_form text (Err fault)

-- for a text that begins with this head and continues with `ahead`: what is read of its base
abbrev pub IsBaseAhead : Head → List ℕ → Result (Option Base × Place × ℕ) ReadFault → Type 0
IsBaseAhead h ahead result =
    (text : List ℕ) → Begins history_form text h [] ahead →
    reading.Reads history_form (λ r. (rest : List ℕ) × (length rest ≡ r.2)
    × AreEntriesRead text h (or_opening h.header r.0) [] r.1 rest) text result

-- the numbers of a position right after the lines of a base are small
pub record IsEarly (p : Place) : Type 0 where
  pub lines : p.lines < 2 ^ 62
  pub folded : p.folded ≤ MOST_FOLDED
  pub count : p.count ≡ 0
  pub calls : p.calls ≤ MOST_FOLDED
