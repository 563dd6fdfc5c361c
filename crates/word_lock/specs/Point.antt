-- Points: what a value shows, how points are ordered, and what a point has of one seat. The proof of the lock
-- doesn't use these definitions. It uses the laws of proofs/PointLaws.antt, so a point may be redefined.
use Rattle.std.specs.Prelude.{◌≡◌, ◌⊎◌, ℕ, ◌+◌, ◌-◌, List, [], ◌++◌, length, take}
use Rattle.std.specs.List.{AllByRecursion}
use Rattle.history.specs.declared.entry.Entry.{Entry}
use Rattle.history.specs.declared.header.Header.{Header}
use Rattle.history.specs.declared.header.Object.TheVariants.{Latch}
use Rattle.history.specs.declared.point.Point.{Point}
use Rattle.history.specs.Base.{folded, opening_base}
use Rattle.history.specs.Point as points
use Rattle.history.specs.Point.{CanFold, ComesBefore}

-- the header, which never changes
unfoldable pub header_of : Point → Header
header_of p = p.base.header

-- p comes before q: entries were added, or all were folded into the base
unfoldable pub Before : Point → Point → Type 0
Before p q = ComesBefore p q

-- the point agrees with `es`, the entries of the seat
unfoldable pub Agrees : Point → ℕ → List Entry → Type 0
Agrees p seat es = points.Agrees p seat es

-- how many entries there were, folded ones among them
abbrev pub entries_at : Point → ℕ
entries_at p = p.base.entries + length p.entries

-- the entries of q that neither p nor its fold has
unfoldable pub added : Point → Point → List Entry
added p q = take (entries_at q - entries_at p) q.entries

-- each entry is of the seat
unfoldable pub AllOfSeat : ℕ → List Entry → Type 0
AllOfSeat seat es = AllByRecursion (λ e. e.seat ≡ seat) es

-- A seat that took p may put back q: entries of the seat were added to the list, or the list was folded and nothing was
-- added.
unfoldable pub Follows : ℕ → Point → Point → Type 0
Follows seat p q =
    ((q.base ≡ p.base) × (q.entries ≡ added p q ++ p.entries) × AllOfSeat seat (added p q))
    ⊎ (CanFold p.base p.entries × (q.base ≡ folded p.base p.entries) × (q.entries ≡ []) × (added p q ≡ []))

-- the stand-in for a point that nobody reads
abbrev pub blank_point : Point
blank_point =
    record {
      base = opening_base (record { object = Latch 0; seats = 0; conditions = 0; cap = 0 });
      entries = [];
    }
