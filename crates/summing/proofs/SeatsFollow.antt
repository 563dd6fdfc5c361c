-- That the tallies of seats follow each entry.
use Rattle.std.proofs.Common.{◌≡◌, ℕ, ◌<◌, ◌≤◌, Bool, List, [], ◌∷◌, length, get_or, set, Option, None, Some, IfSome, refl, arith}
use Rattle.std.proofs.lemmas.Bool.Decides.{nat_tests}
use Rattle.deciding.proofs.HoldsFollow.{at_set}
use Rattle.summing.specs.Below.{Entry, ends_call, Start}
use Rattle.summing.specs.Prelude.{SeatTally, count, is_broken_off, is_queued, is_take, of_seat, times_out, any, longest_with, tally, tally_after, begun, ended, longest_of, under_way, with_wait}
use Rattle.summing.specs.declared.tally.Wait.{Wait}
use Rattle.summing.specs.inner.Tables.{IsFewTally}

-- the longest wait, with one more
pub longest_more : (w : Option Wait) (ws : List Wait) → longest_of (with_wait w ws) ≡ longest_with w (longest_of ws)
longest_more None ws = refl
longest_more (Some w) ws = refl

-- the table, with the tally of the entry's seat written
pub tallies_follow : (s : Start) (e : Entry) (h : List Entry) (table : List SeatTally) (v d : SeatTally) →
    e.seat < length table → v ≡ tally_after e (length h) (tally s h e.seat) →
    ((i : ℕ) → i < s.header.seats → get_or table i d ≡ tally s h i) →
    (i : ℕ) → i < s.header.seats → get_or (set table e.seat v) i d ≡ tally s (e ∷ h) i
tallies_follow s e h table v d seat made is i lt =
    grind (
      arith,
      nat_tests,
      at_set table e.seat i v d seat,
      longest_more (under_way s h i) (ended s h i),
      is i lt,
    )

-- no more entries are counted than there are
pub count_few : (test : Entry → Bool) (h : List Entry) → count test h ≤ length h
count_few test [] = omega arith
count_few test (e ∷ h) = grind (arith, count_few test h)

-- a wait began before the next entry
pub begun_within : (s : Start) (h : List Entry) (i : ℕ) → IfSome (begun s h i) (λ place. place ≤ length h)
begun_within s [] i = grind arith
begun_within s (e ∷ h) i = grind (arith, begun_within s h i)

pub few_tally : (s : Start) (h : List Entry) (i : ℕ) → length h < 4294967296 → IsFewTally (length h) (tally s h i)
few_tally s h i few =
    record {
      entries = omega (arith, few, count_few (of_seat i any) h);
      calls = omega (arith, few, count_few (of_seat i (λ e. ends_call e.word)) h);
      took = omega (arith, few, count_few (of_seat i (λ e. is_take e.word)) h);
      queued = omega (arith, few, count_few (of_seat i (λ e. is_queued e.word)) h);
      timeouts = omega (arith, few, count_few (of_seat i times_out) h);
      interrupts = omega (arith, few, count_few (of_seat i is_broken_off) h);
      begun = begun_within s h i;
    }
