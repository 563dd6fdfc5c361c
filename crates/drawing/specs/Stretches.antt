-- The stretches that a drawing keeps, one for each track.
use Rattle.std.specs.Prelude.{◌≡◌, ◌<◌, ℕ, ◌-◌, nat_lt, if◌then◌else◌, List, [], length, map, slice_index_or}
use Rattle.drawing.specs.Below.{Entry, Start}
use Rattle.drawing.specs.declared.bar.Stretch.{Stretch}
use Rattle.drawing.specs.Levels.{Track, level_of, tracks_of_seat}
use Rattle.drawing.specs.Bars.{lasting}

-- a stretch begins with no holds at the first entry that is drawn
abbrev pub fresh : ℕ → Track → Stretch
fresh from t = record { seat = t.seat; kind = t.kind; first = from; holds = 0 }

-- the level of a track, and the number of the entry from which on it has been the same
abbrev pub stretch : Start → ℕ → List Entry → Track → Stretch
stretch s from h t =
    if nat_lt from (length h) then
    record {
      seat = t.seat;
      kind = t.kind;
      first = length h - lasting s from h t (level_of s h t);
      holds = level_of s h t;
    }
    else fresh from t

-- the stretches of a seat
abbrev pub stretches : Start → ℕ → List Entry → ℕ → List Stretch
stretches s from h i = map (stretch s from h) (tracks_of_seat s.header.conditions i)

-- these are the stretches of all seats
pub record AreStretches (s : Start) (from : ℕ) (h : List Entry) (found : List (List Stretch)) : Type 0 where
  pub seats : length found ≡ s.header.seats
  pub each : (i : ℕ) → i < s.header.seats → slice_index_or found i [] ≡ stretches s from h i
