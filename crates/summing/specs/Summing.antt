-- What is known of the entries so far.
use Rattle.std.specs.Prelude.{◌≡◌, ◌<◌, ◌≤◌, ◌+◌, ◌^◌, ℕ, Bool, true, false, List, length, slice_index_or, None, is_some}
use Rattle.summing.specs.Below.{IsNext, LedgerStand, Entry, Start}
use Rattle.summing.specs.declared.passing.Passing.{Passing}
use Rattle.summing.specs.declared.summary.Summary.{Summary}
use Rattle.summing.specs.declared.summing.Summing.{Summing}
use Rattle.summing.specs.Counting.{count, is_grant}
use Rattle.summing.specs.Passing.{passed, taken_anew}
use Rattle.summing.specs.Peak.{peak}
use Rattle.summing.specs.Summary.{SummaryView}
use Rattle.summing.specs.Tallies.{condition_tally, no_condition_tally, no_tally, tally}
use Rattle.summing.specs.Waits.{begun}

abbrev pub no_passing : Passing
no_passing = record { passed = 0; mark = 0 }

-- A seat was passed so often: it is noted for the waits that ended, and a wait under way has the number of
-- acquires at its beginning.
abbrev pub IsPassing : Bool → ℕ → ℕ → Passing → Type 0
IsPassing true taken passed p = (p.passed + taken ≡ passed + p.mark) × (p.mark ≤ taken)
IsPassing false taken passed p = p.passed ≡ passed

-- these entries after a start were taken
pub record HasSummed (s : Start) (h : List Entry) (z : Summing) : Type 0 where
  pub stand : LedgerStand s h z.ledger
  pub number : z.count ≡ length h
  pub grants : z.grants ≡ count (λ e. is_grant e.word) h
  pub taken : z.taken ≡ taken_anew s h
  pub highest : z.peak ≡ peak s h
  pub seats : length z.seats.items ≡ s.header.seats
  pub passings : length z.passings.items ≡ s.header.seats
  pub conditions : length z.conditions.items ≡ s.header.conditions
  pub tallies : (i : ℕ) → i < s.header.seats → slice_index_or z.seats.items i (no_tally None) ≡ tally s h i
  pub passes : (i : ℕ) → i < s.header.seats →
      IsPassing (is_some (begun s h i)) (taken_anew s h) (passed s h i)
      (slice_index_or z.passings.items i no_passing)
  pub signals : (c : ℕ) → c < s.header.conditions →
      slice_index_or z.conditions.items c no_condition_tally ≡ condition_tally h c

-- one that has taken some entries, after which one more may come, which is legal
pub record CanSum (z : Summing) (e : Entry) : Type 0 where
  pub start : Start
  pub entries : List Entry
  pub summed : HasSummed start entries z
  pub seat : e.seat < start.header.seats
  pub next : IsNext start entries e
  pub room : length entries + 1 < 2 ^ 32

-- one that has taken some entries
pub record IsSumming (z : Summing) : Type 0 where
  pub start : Start
  pub entries : List Entry
  pub summed : HasSummed start entries z
  pub few : length entries < 2 ^ 32

abbrev pub summary_of : Summary → SummaryView
summary_of x =
    record {
      entries = x.entries;
      grants = x.grants;
      peak = x.peak;
      rows = x.rows.items;
      conditions = x.conditions.items;
    }
