-- The lines of a text of names: which name a line gives, and to whom.
use Rattle.std.specs.Prelude.{ℕ, Bool, true, ◌&&◌, nat_le, nat_lt, if◌then◌else◌, List, [], ◌∷◌, length, codes, Option, Some, None}
use Rattle.history.specs.declared.limits.TheConstants.{LAST_CONDITION}
use Rattle.history.specs.Reading.{Words, ◌>>=◌, named_at, number_at}
use Rattle.history.specs.Text.{words_of}
use Rattle.picture.specs.declared.naming.limits.TheConstants.{LAST_SEAT, MOST_NAME_BYTES}
use Rattle.picture.specs.declared.naming.whom.Whom.{Whom}
use Rattle.picture.specs.declared.naming.whom.Whom.TheVariants.{Seat, Condition}

-- printable ASCII, and no space
abbrev pub is_name_byte : ℕ → Bool
is_name_byte byte = nat_lt 32 byte && nat_lt byte 127

abbrev pub are_name_bytes : List ℕ → Bool
are_name_bytes [] = true
are_name_bytes (byte ∷ bytes) = is_name_byte byte && are_name_bytes bytes

abbrev pub is_name : List ℕ → Bool
is_name word = nat_le 1 (length word) && nat_le (length word) MOST_NAME_BYTES && are_name_bytes word

-- a name that is the last word
abbrev pub name_at : Words → Option (List ℕ)
name_at [] = None
name_at (word ∷ []) = if is_name word then Some word else None
name_at (word ∷ next ∷ words) = None

-- the number of a seat, and its name
unfoldable pub seat_at : Words → Option (Whom × List ℕ)
seat_at words = do
  i ← number_at 0 LAST_SEAT words
  name ← name_at i.1
  Some (Seat i.0, name)

-- the word `condition`, the number of one, and its name
unfoldable pub condition_at : Words → Option (Whom × List ℕ)
condition_at words = do
  c ← named_at (codes "condition") 0 LAST_CONDITION words
  name ← name_at c.1
  Some (Condition c.0, name)

-- the first of two, or else the second
abbrev pub or_else : Option (Whom × List ℕ) → Option (Whom × List ℕ) → Option (Whom × List ℕ)
or_else (Some naming) other = Some naming
or_else None other = other

-- the name that a line gives, and to whom
abbrev pub naming_of : List ℕ → Option (Whom × List ℕ)
naming_of line = or_else (seat_at (words_of line)) (condition_at (words_of line))
