-- The conditions' waiters as contracts see them, and how the fields represent them.
use Rattle.std.specs.Prelude.{◌≡◌, ℕ, ◌<◌, ◌^◌, ◌==◌, Bool, false, List, [], ◌∷◌, length, slice_index_or, Option, Some, None}
use Rattle.condition_queue.specs.Below.{has, LinkedLists, items, list_of, list_count, key_limit}
use Rattle.condition_queue.specs.declared.sleeper.Sleeper.{Sleeper}

-- How many seats and conditions there are, who waits on each condition (the longest waiting first), and what
-- each waiter gave up.
pub record Sleepers : Type 0 where
  pub seats : ℕ
  pub conditions : ℕ
  pub lists : List (List ℕ)
  pub sleepers : List (Option Sleeper)

-- the seats that wait on a condition, the longest waiting first
abbrev pub asleep_on : Sleepers → ℕ → List ℕ
asleep_on w c = slice_index_or w.lists c []

-- what a seat waits on and gave up, or None if it waits on no condition
abbrev pub sleeper_of : Sleepers → ℕ → Option Sleeper
sleeper_of w i = slice_index_or w.sleepers i None

abbrev pub sleeps_on : ℕ → Option Sleeper → Bool
sleeps_on c None = false
sleeps_on c (Some s) = s.condition == c

-- each seat is in the list at most once
abbrev pub SleepOnce : List ℕ → Type 0
SleepOnce [] = Unit {0}
SleepOnce (i ∷ rest) = (has i rest ≡ false) × SleepOnce rest

-- the condition that a seat waits on
abbrev pub condition_of : Option Sleeper → Option ℕ
condition_of None = None
condition_of (Some s) = Some s.condition

-- The lists, the counts and the table agree, and each seat has a link.
pub record AreLinkedSleepers (seats : ℕ) (l : LinkedLists) (counts : List ℕ)
    (table : List (Option Sleeper)) : Type 0 where
  pub listed : (c i : ℕ) → has i (items l c) ≡ sleeps_on c (slice_index_or table i None)
  pub owned : (i : ℕ) → list_of l i ≡ condition_of (slice_index_or table i None)
  pub once : (c : ℕ) → SleepOnce (items l c)
  pub counted : (c : ℕ) → slice_index_or counts c 0 ≡ length (items l c)
  pub each_counted : length counts ≡ list_count l
  pub one_a_seat : length table ≡ seats
  pub linked : seats ≡ key_limit l
  pub few : seats < 2 ^ 16
