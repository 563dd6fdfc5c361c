use Rattle.std.proofs.Common.{◌≡◌, ◌+◌, ◌≤◌, List, [], length, reverse, ℕ}
use Rattle.history_text.specs.Below.{or_opening, MOST_FOLDED, whole_pages}
use Rattle.history_text.specs.NextLine.{AreEntriesRead}
use Rattle.history_text.proofs.reading.read_entries.Given as goal

abbrev pub invariant-loop-history : goal.invariant-loop-history
invariant-loop-history l = record {
  read : (text : List ℕ) → AreEntriesRead text l.head (or_opening l.head.header l.fn.empty.base) [] l.fn.place
      l.fn.ahead
      → AreEntriesRead text l.head (or_opening l.head.header l.fn.empty.base) (reverse l.history.entries)
      l.place l.rest;
  base : l.history.base ≡ l.fn.empty.base;
  cap : l.history.cap ≡ l.head.header.cap;
  owed : l.history.owed ≡ 0;
  places : l.history.places ≡ whole_pages (length l.history.entries);
  lines : l.place.lines ≡ l.fn.place.lines;
  folded : l.place.folded ≡ l.fn.place.folded;
  count : l.place.count ≡ length l.history.entries;
  few : l.place.count ≤ l.head.header.cap;
  calls : l.place.calls ≤ MOST_FOLDED + length l.history.entries;
}

abbrev pub decreases-loop-history : goal.decreases-loop-history
decreases-loop-history l = length l.rest
