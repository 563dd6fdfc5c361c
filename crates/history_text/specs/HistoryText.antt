-- History texts: their form, and what reading one returns.
use Rattle.std.specs.Prelude.{◌≡◌, ℕ, ◌≤◌, List, [], ◌∷◌, ◌++◌, length, reverse, All, None, Result, Ok, Err}
use Rattle.history_text.specs.Below.{Entry, Header, Base, HistoryView, base_on, IsBaseOf, IsInRange, whole_pages, ReadFault, Form, IsReading, IsText, Reading}
use Rattle.streams.specs.Reading as reading
use Rattle.history_text.specs.declared.place.Head.{Head}
use Rattle.history_text.specs.EntryLines.{HasLine}
use Rattle.history_text.specs.HistoryLines.{head_line, head_of}
use Rattle.history_text.specs.TextLines.{Line, SomeBeginsSo, SomeHas, end_of, line_text, lines_on}

-- A header of any object, the lines of a base if there is one, entries of its seats with their numbers, at
-- most as many as its cap, and two counts. A line is good if some history on a good base begins with the
-- lines before it and this line.
abbrev pub history_form : Form Head Line
history_form =
    record {
      IsHeader = λ h. IsInRange h.header;
      header_line = head_line;
      IsItem = λ h before x. SomeBeginsSo h (before ++ x ∷ []);
      item_line = line_text;
      MayEnd = SomeHas;
      end_line = end_of;
    }

-- the text of a history on this base, with these entries, the oldest first
pub record IsHistoryText (text : List ℕ) (b : Base) (entries : List Entry) : Type 0 where
  pub base : IsBaseOf b.header b
  pub is : IsText history_form text (head_of b) (lines_on b entries)

-- what a text spells, or its first fault
abbrev pub IsHistoryReading : List ℕ → Reading Base Entry → Type 0
IsHistoryReading text (Ok said) = IsHistoryText text said.0 said.1
IsHistoryReading text (Err fault) = IsReading history_form text (Err fault)

-- a base can be written: it is the header's opening one, or a good one of a header in range
pub record HasBaseText (h : Header) (b : Base) : Type 0 where
  pub is : IsBaseOf h b
  pub range : 1 ≤ b.entries → IsInRange h

-- the history has a text under this header
pub record Fits (h : Header) (kept : HistoryView) : Type 0 where
  pub cap : kept.cap ≡ h.cap
  pub base : HasBaseText h (base_on h kept)
  pub each : All (HasLine h) (reverse kept.entries)

-- what was read: a list with the header's cap, on the text's base if there is one; no room is owed, and there
-- are no more pages than its entries take
pub record IsRead (text : List ℕ) (h : Header) (kept : HistoryView) : Type 0 where
  pub reading : IsHistoryText text (base_on h kept) (reverse kept.entries)
  pub header : (base_on h kept).header ≡ h
  pub none : (base_on h kept).entries ≡ 0 → kept.base ≡ None
  pub cap : kept.cap ≡ h.cap
  pub owed : kept.owed ≡ 0
  pub places : kept.places ≡ whole_pages (length kept.entries)

-- what a call returns: the reading of the text, or lack of memory
abbrev pub Reads : List ℕ → Result (Header × HistoryView) ReadFault → Type 0
Reads text = reading.Reads history_form (λ read. IsRead text read.0 read.1) text
