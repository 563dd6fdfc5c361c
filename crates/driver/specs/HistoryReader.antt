-- Reading a history text from a source, one entry at a time.
use Rattle.std.specs.Prelude.{◌≡◌, ◌<◌, ◌≤◌, ℕ, List, [], ◌∷◌, ◌++◌, Option, Some, None, Result, Ok, Err, IfSome}
use Rattle.driver.specs.Below.{Entry, Header, Base, or_opening, Place, head_of, IsHistoryText, history_form, behind, StreamFault}
use Rattle.driver.specs.BaseReader.{EntriesBehind, IsPlacedBehind}
use Rattle.driver.specs.TextReader.{IsFaultOf}

-- What a reader of entries has: the header, the text's base if there is one, its position, the bytes after
-- that which it holds, and how many places its memory has.
pub record EntriesHeld : Type 0 where
  pub header : Header
  pub base : Option Base
  pub place : Place
  pub bytes : List ℕ
  pub places : ℕ

-- what the history begins from
abbrev pub base_held : EntriesHeld → Base
base_held held = or_opening held.header held.base

-- no entry was read
abbrev pub IsStart : EntriesHeld → Type 0
IsStart held = IsPlacedBehind (base_held held) held.place

-- one more entry is counted, of one of the header's seats and within its cap, or none is
abbrev pub AreCounted : EntriesHeld → Option Entry → EntriesHeld → Type 0
AreCounted old None new = new.place ≡ old.place
AreCounted old (Some e) new =
    (new.place ≡ behind old.place e) × (new.place.count ≤ old.header.cap) × (e.seat < old.header.seats)

-- these entries of the text were read, the oldest first; this is left in the reader's source
abbrev pub EntriesRead : Option (List ℕ) → EntriesHeld → Option (List ℕ) → List Entry → Type 0
EntriesRead text held left es =
    EntriesBehind text (head_of (base_held held)) (base_held held) es held.place held.bytes left

-- After whatever entries: one more was read, or they are all, or this is the fault of the text or of its
-- source, which has this left.
abbrev pub IsEntryNext : EntriesHeld → Option (List ℕ) → Result (Option Entry) StreamFault → EntriesHeld →
    Option (List ℕ) → Type 0
IsEntryNext old left (Ok (Some e)) new after =
    (text : Option (List ℕ)) (es : List Entry) → EntriesRead text old left es →
    EntriesRead text new after (es ++ e ∷ [])
IsEntryNext old left (Ok None) new after =
    (text : Option (List ℕ)) (es : List Entry) → EntriesRead text old left es →
    IfSome text (λ t. IsHistoryText t (base_held old) es)
IsEntryNext old left (Err fault) new after =
    (text : Option (List ℕ)) (es : List Entry) → EntriesRead text old left es →
    IsFaultOf history_form text after fault
