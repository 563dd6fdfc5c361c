-- The rules of a base: which numbers and lists some history can have left.
use Rattle.std.specs.Prelude.{◌≡◌, ◌≢◌, ◌⊎◌, ◌<◌, ◌≤◌, ◌*◌, ℕ, true, false, [], length, ℤ, pos, ◌≤ℤ◌}
use Rattle.std.specs.List.{AllByRecursion}
use Rattle.history.specs.Types.{MOST_AMOUNT, MOST_FOLDED, MOST_BASE_PERMITS, Mode, X, S, Header, Object, Lock, ReadWrite, Semaphore, Latch}
use Rattle.history.specs.declared.base.Sleeper.{Sleeper}
use Rattle.history.specs.declared.base.LinePlace.{LinePlace}
use Rattle.history.specs.declared.entry.End.TheVariants as end
use Rattle.history.specs.Base.{Base, based, opening_base, sleepers_of}
use Rattle.history.specs.Counts.{free, held}
use Rattle.history.specs.Faults.{is_bad_number, lacks_mode}
use Rattle.history.specs.Legal.{calls}
use Rattle.history.specs.Line.{coming_back}
use Rattle.history.specs.Object.{is_lock, is_semaphore}
use Rattle.history.specs.Ownership.{IsOwned, most_exclusive}
use Rattle.history.specs.Waiting.{IsOneWait}

-- the limits of a base, under the names that other crates cite
abbrev pub most_folded : ℕ
most_folded = MOST_FOLDED

abbrev pub most_permits : ℕ
most_permits = MOST_BASE_PERMITS

-- Only a semaphore has permits released unheld. Only a latch has a count, at most its opening one.
abbrev pub AreCounted : Object → Base → Type 0
AreCounted (Lock policy) b = (b.unheld ≡ 0) × (b.count ≡ 0)
AreCounted (ReadWrite policy) b = (b.unheld ≡ 0) × (b.count ≡ 0)
AreCounted (Semaphore policy permits) b = (b.unheld ≤ MOST_BASE_PERMITS) × (b.count ≡ 0)
AreCounted (Latch opening) b = (b.unheld ≡ 0) × (b.count ≤ opening)

-- The permits of a semaphore. None is held exclusively. The free permits are at least the smaller of 0 and
-- the opening number, and at most the greatest amount.
pub record ArePermits (created : ℤ) (b : Base) : Type 0 where
  pub exclusive : (i : ℕ) → held (based b) [] i X ≡ 0
  pub shared : (i : ℕ) → held (based b) [] i S ≤ MOST_BASE_PERMITS
  pub lowest : (pos 0 ≤ℤ free (based b) []) ⊎ (created ≤ℤ free (based b) [])
  pub highest : free (based b) [] ≤ℤ pos MOST_AMOUNT

-- A lock has at most one owner, and nobody else holds it then. Nobody holds a latch.
abbrev pub AreHeld : Object → Base → Type 0
AreHeld (Lock policy) b = IsOwned (based b) []
AreHeld (ReadWrite policy) b = IsOwned (based b) []
AreHeld (Semaphore policy permits) b = ArePermits permits b
AreHeld (Latch opening) b = (i : ℕ) (m : Mode) → held (based b) [] i m ≡ 0

-- Seat i gave up n holds of a lock to wait on condition c, within the limit of a seat. It holds nothing.
pub record GaveUp (b : Base) (i c n : ℕ) : Type 0 where
  pub lock : is_lock b.header.object ≡ true
  pub seat : i < b.header.seats
  pub condition : c < b.header.conditions
  pub some : 1 ≤ n
  pub most : n ≤ most_exclusive b.header.object
  pub nothing : (m : Mode) → held (based b) [] i m ≡ 0

-- An acquire in the queue asks for a mode and amount that the object has. Its seat owns nothing, and comes
-- back from no sleep.
pub record Asks (b : Base) (p : LinePlace) : Type 0 where
  pub seat : p.who.seat < b.header.seats
  pub mode : lacks_mode b.header.object p.who.mode ≡ false
  pub amount : is_bad_number b.header.object p.who.n ≡ false
  pub owns : held (based b) [] p.who.seat X ≡ 0
  pub condition : p.condition ≡ 0
  pub holds : p.holds ≡ 0
  pub how : p.how ≡ end.None

-- A waiter that comes back from a condition gave up its holds, and its wait there has an end.
pub record Returns (b : Base) (p : LinePlace) : Type 0 where
  pub who : p.who ≡ coming_back p.who.seat
  pub gave : GaveUp b p.who.seat p.condition p.holds
  pub how : p.how ≢ end.None

abbrev pub StandsWell : Base → LinePlace → Type 0
StandsWell b p = ((p.who.back ≡ false) × Asks b p) ⊎ ((p.who.back ≡ true) × Returns b p)

abbrev pub SleepsWell : Base → ℕ → Sleeper → Type 0
SleepsWell b c x = GaveUp b x.seat c x.holds

-- A base that satisfies all rules.
pub record IsGood (b : Base) : Type 0 where
  pub entries : b.entries ≤ MOST_FOLDED
  pub seats : length b.seats ≡ b.header.seats
  pub conditions : length b.sleepers ≡ b.header.conditions
  pub calls : calls (based b) [] ≤ b.entries  -- each entry ends one call at most
  pub counted : AreCounted b.header.object b
  pub held : AreHeld b.header.object b
  pub once : IsOneWait (based b) []  -- nobody waits in two places
  pub line : AllByRecursion (StandsWell b) b.line
  pub sleepers : (c : ℕ) → AllByRecursion (SleepsWell b c) (sleepers_of b c)

-- A base whose permits are at most what its entries can have moved, since no request is for more than
-- MOST_AMOUNT. The fold of entries onto an opening is always such a base.
abbrev pub IsModest : Base → Type 0
IsModest b =
    is_semaphore b.header.object ≡ true →
    (b.unheld ≤ MOST_AMOUNT * b.entries) × ((i : ℕ) → held (based b) [] i S ≤ MOST_AMOUNT * b.entries)

-- A base that an object can have: that of its opening, or a good one with at least one entry folded.
abbrev pub IsBaseOf : Header → Base → Type 0
IsBaseOf k b = (b.header ≡ k) × ((b ≡ opening_base k) ⊎ ((1 ≤ b.entries) × IsGood b))
