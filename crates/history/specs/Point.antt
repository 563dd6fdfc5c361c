-- A history that may be folded, as somebody has seen it: a base, and the entries after it.
use Rattle.std.specs.Prelude.{◌≡◌, ◌⊎◌, ℕ, ◌+◌, ◌==◌, true, List, [], ◌++◌, filter}
use Rattle.history.specs.Types.{Entry, Mode}
use Rattle.history.specs.declared.point.Point.{Point}
use Rattle.history.specs.Base.{Base, based, folded, seat_of}
use Rattle.history.specs.Counts.{held}
use Rattle.history.specs.Entries.{ended_calls}
use Rattle.history.specs.GoodBase.{IsGood}
use Rattle.history.specs.Legal.{AreSeated, IsLegal}
use Rattle.history.specs.Ownership.{is_away}
use Rattle.history.specs.Phase.{phase}
use Rattle.history.specs.Sleepers.{last_sleep}
use Rattle.history.specs.Start.{opening}

-- the same base, with more entries after it
abbrev pub Grows : Point → Point → Type 0
Grows p q = (p.base ≡ q.base) × ((more : List Entry) × (q.entries ≡ more ++ p.entries))

-- Entries that a good base may fold: they are legal, and each is of one of the object's seats.
pub record CanFold (b : Base) (h : List Entry) : Type 0 where
  pub good : IsGood b
  pub seated : AreSeated (based b) h
  pub legal : IsLegal (based b) h

-- q is the fold of p with more entries
pub record IsFolded (p q : Point) : Type 0 where
  pub more : List Entry
  pub can : CanFold p.base (more ++ p.entries)
  pub base : q.base ≡ folded p.base (more ++ p.entries)

-- q continues the history that p shows: with more entries, or folded
abbrev pub ComesBefore : Point → Point → Type 0
ComesBefore p q = Grows p q ⊎ IsFolded p q

-- the entries of one seat
abbrev pub entries_of : ℕ → List Entry → List Entry
entries_of i h = filter (λ e. e.seat == i) h

-- How a point agrees with all entries of a seat. It has the newest of them, and its base has the number of
-- calls that the others ended. The seat's holds in it are what all its entries come to, also the folded ones.
-- If the entries can be folded and the seat is within an await, its last sleep is that of all its entries.
pub record Agrees (p : Point) (i : ℕ) (all : List Entry) : Type 0 where
  pub older : List Entry
  pub newest : all ≡ entries_of i p.entries ++ older
  pub calls : (seat_of p.base i).calls + ended_calls (entries_of i p.entries) ≡ ended_calls all
  pub holds : (m : Mode) → held (based p.base) p.entries i m ≡ held (opening p.base.header) all i m
  pub sleep :
      CanFold p.base p.entries → is_away (phase (based p.base) p.entries i) ≡ true →
      last_sleep (based p.base) p.entries i ≡ last_sleep (opening p.base.header) all i

-- The second point follows the first by the entries `added`: they were added to its list, or nothing was
-- added and the list was folded.
abbrev pub FollowsBy : Point → Point → List Entry → Type 0
FollowsBy p q added =
    ((q.base ≡ p.base) × (q.entries ≡ added ++ p.entries))
    ⊎ ((q.base ≡ folded p.base p.entries) × (q.entries ≡ []) × (added ≡ []))
