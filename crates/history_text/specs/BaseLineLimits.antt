-- Which values the line of a base may have.
use Rattle.std.specs.Prelude.{◌≡◌, ◌≤◌, Bool, true, false}
use Rattle.history_text.specs.Below.{LinePlace, Entry, X, LAST_CONDITION, MOST_AMOUNT, MOST_BASE_PERMITS, MOST_FOLDED, MOST_HOLDS, IsWritten}
use Rattle.history.specs.declared.entry.End.TheVariants as end
use Rattle.history_text.specs.declared.base_line.BaseLine.{BaseLine}
use Rattle.history_text.specs.declared.base_line.BaseLine.TheVariants.{Folded, Released, CountedDown, Seat, Stands, Sleeps}
use Rattle.history_text.specs.declared.base_line.TheConstants.{LAST_SEAT}
use Rattle.history_text.specs.BaseLines.{waiting_entry}

-- a waiter that waits for what its acquire asks for, and one that comes back from a condition
abbrev pub queued : Entry → LinePlace
queued e =
    record {
      who = record { seat = e.seat; mode = e.mode; n = e.n; back = false };
      condition = 0;
      holds = 0;
      how = end.None;
    }

abbrev pub comes_back : Entry → LinePlace
comes_back e =
    record {
      who = record { seat = e.seat; mode = X; n = 1; back = true };
      condition = e.at;
      holds = e.n;
      how = e.end;
    }

abbrev pub stood_by : Bool → Entry → LinePlace
stood_by true e = comes_back e
stood_by false e = queued e

-- the numbers are within a line's limits, and what no word spells has its fixed value
abbrev pub IsBaseLine : BaseLine → Type 0
IsBaseLine (Folded t) = (1 ≤ t) × (t ≤ MOST_FOLDED)
IsBaseLine (Released t u) = (1 ≤ t) × (t ≤ MOST_FOLDED) × (u ≤ MOST_BASE_PERMITS)
IsBaseLine (CountedDown t q) = (1 ≤ t) × (t ≤ MOST_FOLDED) × (q ≤ MOST_AMOUNT)
IsBaseLine (Seat i has) =
    (i ≤ LAST_SEAT) × (has.calls ≤ MOST_FOLDED) × (has.exclusive ≤ MOST_HOLDS)
    × (has.shared ≤ MOST_BASE_PERMITS)
IsBaseLine (Stands p) =
    (p.who.seat ≤ LAST_SEAT) × IsWritten (waiting_entry p)
    × (p ≡ stood_by p.who.back (waiting_entry p))
IsBaseLine (Sleeps c x) = (c ≤ LAST_CONDITION) × (x.seat ≤ LAST_SEAT) × (x.holds ≤ MOST_HOLDS)
