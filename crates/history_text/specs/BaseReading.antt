-- What the readers of base lines return: what they read, and the words that are left.
use Rattle.std.specs.Prelude.{ℕ, [], ◌∷◌, Option, None, Some, codes, bytes_eq, if◌then◌else◌}
use Rattle.history_text.specs.Below.{LinePlace, Entry, Word, Queued, Back, entry_at, LAST_CONDITION, MOST_AMOUNT, MOST_BASE_PERMITS, MOST_FOLDED, MOST_HOLDS, Words, keyword_at, named_at, number_at, wide_at}
use Rattle.history.specs.Reading.{◌>>=◌}
use Rattle.history_text.specs.declared.base_line.BaseLine.{BaseLine}
use Rattle.history_text.specs.declared.base_line.BaseLine.TheVariants.{Folded, Released, CountedDown, Seat, Stands, Sleeps}
use Rattle.history_text.specs.declared.base_line.TheConstants.{LAST_SEAT}
use Rattle.history_text.specs.BaseLineLimits.{comes_back, queued}

-- what follows the number of folded entries
unfoldable pub beside_at : ℕ → Words → Option (BaseLine × Words)
beside_at entries [] = Some (Folded entries, [])
beside_at entries (w ∷ ws) =
    if bytes_eq w (codes "unheld") then
    (wide_at 0 MOST_BASE_PERMITS ws >>= λ u. Some (Released entries u.0, u.1))
    else if bytes_eq w (codes "count") then
    (number_at 0 MOST_AMOUNT ws >>= λ q. Some (CountedDown entries q.0, q.1))
    else None

unfoldable pub folded_at : Words → Option (BaseLine × Words)
folded_at words = do
  t ← wide_at 1 MOST_FOLDED words
  beside_at t.0 t.1

unfoldable pub has_at : Words → Option (BaseLine × Words)
has_at words = do
  i ← number_at 0 LAST_SEAT words
  calls ← named_at (codes "calls") 0 MOST_FOLDED i.1
  exclusive ← named_at (codes "x") 0 MOST_HOLDS calls.1
  name ← keyword_at (codes "s") exclusive.1
  shared ← wide_at 0 MOST_BASE_PERMITS name.1
  Some (Seat i.0 (record { calls = calls.0; exclusive = exclusive.0; shared = shared.0 }), shared.1)

-- the waiter in the queue, from the entry whose words spell what it waits for
abbrev pub standing_of : Word → Entry → Option LinePlace
standing_of Queued e = Some (queued e)
standing_of Back e = Some (comes_back e)
standing_of w e = None

unfoldable pub stands_at : Words → Option (BaseLine × Words)
stands_at words = do
  i ← number_at 0 LAST_SEAT words
  e ← entry_at i.0 i.1
  p ← standing_of e.0.word e.0
  Some (Stands p, e.1)

unfoldable pub sleeps_at : Words → Option (BaseLine × Words)
sleeps_at words = do
  c ← number_at 0 LAST_CONDITION words
  i ← number_at 0 LAST_SEAT c.1
  h ← number_at 0 MOST_HOLDS i.1
  Some (Sleeps c.0 (record { seat = i.0; holds = h.0 }), h.1)

-- a line of a base
unfoldable pub base_line_at : Words → Option (BaseLine × Words)
base_line_at [] = None
base_line_at (w ∷ ws) = if bytes_eq w (codes "base") then folded_at ws
    else if bytes_eq w (codes "seat") then has_at ws
    else if bytes_eq w (codes "line") then stands_at ws
    else if bytes_eq w (codes "sleeper") then sleeps_at ws
    else None
