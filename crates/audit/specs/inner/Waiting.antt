-- How an entry, or a base, changes the audit's queue and waiters.
use Rattle.std.specs.Prelude.{◌≡◌, ◌<◌, ◌≤◌, ℕ, true, List, [], length, map, slice_index_or, slice_set, Option, Some, None}
use Rattle.std.specs.List.{AllByRecursion}
use Rattle.audit.specs.Below.{Entry, End, Word, Header, Lapse, Base, sleepers_of, has, Sleep, times, Sleepers, asleep_on, sleeper_of, LastSleep}
use Rattle.history.specs.declared.entry.End.TheVariants as end
use Rattle.history.specs.declared.entry.Word.TheVariants.{Await}
use Rattle.audit.specs.declared.waiting.Waiting.{Waiting}
use Rattle.audit.specs.Waiting.{never_slept}
use Rattle.history.specs.inner.BaseSleepers.{sleeping_seats}

-- what a seat saves at an await
abbrev pub sleep_by : Entry → LastSleep
sleep_by e = record { condition = e.at; holds = e.n; how = end.Signalled }

-- a sleep that ended in this way
abbrev pub ended_by : End → LastSleep → LastSleep
ended_by how was = record { condition = was.condition; holds = was.holds; how = how }

-- the table of last sleeps after an entry
abbrev pub saved_by : Word → Entry → List LastSleep → List LastSleep
saved_by Await e table = slice_set table e.seat (sleep_by e)
saved_by Lapse e table = slice_set table e.seat (ended_by e.end (slice_index_or table e.seat never_slept))
saved_by _ e table = table

-- a sleep that was found, else the one that was kept before
abbrev pub or_kept : Option Sleep → Sleep → Sleep
or_kept None was = was
or_kept (Some found) was = found

-- none of these seats waits on a condition
abbrev pub AreAwake : List ℕ → Sleepers → Type 0
AreAwake seats waiters = (i : ℕ) → has i seats ≡ true → sleeper_of waiters i ≡ None

-- The waiters of a base's conditions are among the first `seats` seats, and each waits once.
pub record AreSleepers (seats : ℕ) (b : Base) : Type 0 where
  pub seated : (c : ℕ) → AllByRecursion (λ x. x.seat < seats) (sleepers_of b c)
  pub once : (c i : ℕ) → times i (sleeping_seats b c) ≤ 1
  pub apart : (c d i : ℕ) → has i (sleeping_seats b c) ≡ true → has i (sleeping_seats b d) ≡ true → c ≡ d

-- Nobody waits, and nobody ever did, at an object with this header.
pub record NobodyWaits (k : Header) (w : Waiting) : Type 0 where
  pub line : w.line.arrivals ≡ []
  pub joined : w.line.joined ≡ 0
  pub places : w.line.seats ≡ k.seats
  pub asleep : (c : ℕ) → asleep_on w.asleep c ≡ []
  pub awake : (i : ℕ) → sleeper_of w.asleep i ≡ None
  pub conditions : w.asleep.conditions ≡ k.conditions
  pub beds : w.asleep.seats ≡ k.seats
  pub seats : length w.last_sleep.items ≡ k.seats
  pub slept : (i : ℕ) → slice_index_or w.last_sleep.items i never_slept ≡ never_slept
