-- How an entry changes the stretches that a drawing keeps, and which bars it ends.
use Rattle.std.specs.Prelude.{◌≡◌, ◌<◌, ◌≤◌, ℕ, ◌-◌, ◌==◌, if◌then◌else◌, List, [], ◌∷◌, ◌++◌, length}
use Rattle.std.specs.List.{flat_map}
use Rattle.drawing.specs.Below.{Entry, LedgerStand, Start}
use Rattle.audit.specs.declared.ledger.Ledger.{Ledger}
use Rattle.drawing.specs.declared.bar.Bar.{Bar}
use Rattle.drawing.specs.declared.bar.Stretch.{Stretch}
use Rattle.drawing.specs.Bars.{ended_by}
use Rattle.drawing.specs.Levels.{level, tracks}
use Rattle.drawing.specs.Stretches.{AreStretches}

-- the bar of a stretch that ends before the entry of a number, if the stretch has holds
abbrev pub bar_of : ℕ → Stretch → List Bar
bar_of number x =
    if x.holds == 0 then []
    else
    record { seat = x.seat; kind = x.kind; first = x.first; last = number - 1; holds = x.holds } ∷ []

-- the level after a history of the stretch's seat and kind
abbrev pub level_now : Start → List Entry → Stretch → ℕ
level_now s h x = level s h x.seat x.kind

-- a stretch after the newest entry, which has this number, and the bar that ends before it
abbrev pub going_on : Start → List Entry → ℕ → Stretch → Stretch
going_on s h number x =
    if level_now s h x == x.holds then x
    else record { seat = x.seat; kind = x.kind; first = number; holds = level_now s h x }

abbrev pub ending : Start → List Entry → ℕ → Stretch → List Bar
ending s h number x = if level_now s h x == x.holds then [] else bar_of number x

-- the stretches before an entry that is drawn, and a ledger after it
pub record CanGoOn (from : ℕ) (e : Entry) (n : ℕ) (l : Ledger) (found : List (List Stretch)) : Type 0 where
  pub start : Start
  pub entries : List Entry
  pub stand : LedgerStand start (e ∷ entries) l
  pub seat : e.seat < start.header.seats
  pub number : n ≡ length entries
  pub drawn : from ≤ n
  pub stretches : AreStretches start from entries found

-- the stretches after an entry, and the bars with those that it ends
pub record GoesOn (s : Start) (from : ℕ) (e : Entry) (h : List Entry) (found : List (List Stretch))
    (old new : List Bar) : Type 0 where
  pub stretches : AreStretches s from (e ∷ h) found
  pub bars : new ≡ old ++ flat_map (ended_by s from e h) (tracks s.header)
