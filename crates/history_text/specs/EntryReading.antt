-- What the readers of lines return: what they read, and the words that are left.
use Rattle.std.specs.Prelude.{ℕ, ◌-◌, Option, Some, codes}
use Rattle.history_text.specs.Below.{Entry, entry_at, Words, number_at, keyword_at}
use Rattle.history.specs.Reading.{◌>>=◌}

unfoldable pub counts_at : ℕ → ℕ → Words → Option (Unit {0} × Words)
counts_at entries calls words = do
  name ← keyword_at (codes "end") words
  e ← number_at entries entries name.1
  c ← number_at calls calls e.1
  Some (tt, c.1)

-- the number, the seat and the words of an entry; the number is this one, and the seat one of the object's
unfoldable pub line_at : ℕ → ℕ → Words → Option (Entry × Words)
line_at number seats words = do
  k ← number_at number number words
  seat ← number_at 0 (seats - 1) k.1
  entry_at seat.0 seat.1
