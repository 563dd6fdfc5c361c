use Rattle.std.proofs.Common.{◌≡◌, ◌≤◌, ◌-◌, ℕ, List, Option, false, length, map}
use Rattle.driver.specs.Below.{MOST_LINES, Based, room}
use Rattle.driver.specs.inner.BaseReader.{HeadRead, AreLinesRead}
use Rattle.driver.proofs.base_reader.read_base.Given as goal

abbrev pub invariant-loop-base : goal.invariant-loop-base
invariant-loop-base g l = record {
  going : g.R.Source.failed l.reader ≡ false;
  places : l.window.places ≡ room;
  held : length l.window.bytes ≤ room;
  header : l.base.header ≡ l.head.header;
  few : length l.base.lines ≤ MOST_LINES;
  under : (text : Option (List ℕ)) → HeadRead text l.head l.fn.window.bytes (g.R.Source.left l.fn.reader) →
      AreLinesRead text l.head (map Based l.base.lines) l.window.bytes (g.R.Source.left l.reader);
}

abbrev pub decreases-loop-base : goal.decreases-loop-base
decreases-loop-base g l = MOST_LINES - length l.base.lines
