-- The lines of a base, in the order in which a history text has them.
use Rattle.std.specs.Prelude.{ℕ, ◌+◌, Bool, true, false, List, [], ◌∷◌, ◌++◌, map, codes, decimal}
use Rattle.history_text.specs.Below.{SeatBase, Sleeper, LinePlace, Entry, X, Queued, Back, Object, Lock, ReadWrite, Semaphore, Latch, Base, entry_words, line_of}
use Rattle.history.specs.declared.entry.End.TheVariants as end
use Rattle.history_text.specs.declared.base_line.BaseLine.{BaseLine}
use Rattle.history_text.specs.declared.base_line.BaseLine.TheVariants.{Folded, Released, CountedDown, Seat, Stands, Sleeps}

-- the entry whose words spell what a waiter waits for
abbrev pub waiting_by : Bool → LinePlace → Entry
waiting_by true p =
    record { seat = p.who.seat; word = Back; mode = X; n = p.holds; at = p.condition; end = p.how }
waiting_by false p =
    record { seat = p.who.seat; word = Queued; mode = p.who.mode; n = p.who.n; at = 0; end = end.None }

abbrev pub waiting_entry : LinePlace → Entry
waiting_entry p = waiting_by p.who.back p

-- the words of a line
abbrev pub base_words : BaseLine → List (List ℕ)
base_words (Folded t) = codes "base" ∷ decimal t ∷ []
base_words (Released t u) = codes "base" ∷ decimal t ∷ codes "unheld" ∷ decimal u ∷ []
base_words (CountedDown t q) = codes "base" ∷ decimal t ∷ codes "count" ∷ decimal q ∷ []
base_words (Seat i has) =
    codes "seat" ∷ decimal i ∷ codes "calls" ∷ decimal has.calls ∷ codes "x" ∷ decimal has.exclusive
    ∷ codes "s" ∷ decimal has.shared ∷ []
base_words (Stands p) = codes "line" ∷ decimal p.who.seat ∷ entry_words (waiting_entry p)
base_words (Sleeps c x) = codes "sleeper" ∷ decimal c ∷ decimal x.seat ∷ decimal x.holds ∷ []

abbrev pub base_line : BaseLine → List ℕ
base_line x = line_of (base_words x)

-- the first line: how many entries were folded, and what else the object counts
abbrev pub first_line : Object → Base → BaseLine
first_line (Lock policy) b = Folded b.entries
first_line (ReadWrite policy) b = Folded b.entries
first_line (Semaphore policy permits) b = Released b.entries b.unheld
first_line (Latch opening) b = CountedDown b.entries b.count

abbrev pub seat_lines : ℕ → List SeatBase → List BaseLine
seat_lines i [] = []
seat_lines i (has ∷ rest) = Seat i has ∷ seat_lines (i + 1) rest

abbrev pub sleeper_lines : ℕ → List (List Sleeper) → List BaseLine
sleeper_lines c [] = []
sleeper_lines c (xs ∷ rest) = map (Sleeps c) xs ++ sleeper_lines (c + 1) rest

-- all lines of a base
abbrev pub base_lines : Base → List BaseLine
base_lines b =
    first_line b.header.object b ∷ (seat_lines 0 b.seats ++ (map Stands b.line ++ sleeper_lines 0 b.sleepers))
