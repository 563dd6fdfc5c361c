-- What a bar of a history is.
use Rattle.std.specs.Prelude.{◌≡◌, ◌≢◌, ◌<◌, ◌≤◌, ◌⊎◌, ℕ, ◌+◌, ◌-◌, List, length, drop}
use Rattle.drawing.specs.Below.{Entry, Start}
use Rattle.drawing.specs.declared.bar.Bar.{Bar}
use Rattle.drawing.specs.declared.kind.Kind.{Kind}
use Rattle.drawing.specs.declared.kind.Kind.TheVariants.{Exclusive, Shared, InLine, Asleep}
use Rattle.drawing.specs.Levels.{level}

-- the entries up to the one of a number; the newest is first in the list, and the oldest has number 0
abbrev pub up_to : ℕ → List Entry → List Entry
up_to number h = drop (length h - (number + 1)) h

-- the level of a seat after the entry of a number
abbrev pub level_behind : Start → List Entry → ℕ → Kind → ℕ → ℕ
level_behind s h i kind number = level s (up_to number h) i kind

-- the kinds of an object with `conditions` conditions
abbrev pub IsKind : ℕ → Kind → Type 0
IsKind conditions Exclusive = Unit {0}
IsKind conditions Shared = Unit {0}
IsKind conditions InLine = Unit {0}
IsKind conditions (Asleep c) = c < conditions

-- A stretch of entries from a number on, after each of which the seat has the bar's level, at least 1. The seat
-- has another level before it, or it begins where drawing does.
pub record IsRun (s : Start) (from : ℕ) (h : List Entry) (b : Bar) : Type 0 where
  pub seat : b.seat < s.header.seats
  pub kind : IsKind s.header.conditions b.kind
  pub some : 0 < b.holds
  pub begins_within : from ≤ b.first
  pub order : b.first ≤ b.last
  pub ends_within : b.last < length h
  pub throughout : (number : ℕ) → b.first ≤ number → number ≤ b.last →
      level_behind s h b.seat b.kind number ≡ b.holds
  pub before : (b.first ≡ from) ⊎ (level_behind s h b.seat b.kind (b.first - 1) ≢ b.holds)

-- A bar: a longest such stretch.
pub record IsBar (s : Start) (from : ℕ) (h : List Entry) (b : Bar) : Type 0 where
  pub run : IsRun s from h b
  pub behind : (b.last + 1 ≡ length h) ⊎ (level_behind s h b.seat b.kind (b.last + 1) ≢ b.holds)
