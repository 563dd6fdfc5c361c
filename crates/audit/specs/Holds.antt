-- What the audit's tables of holds represent.
use Rattle.std.specs.Prelude.{◌≡◌, ℕ, ◌*◌, ◌≤◌, List, length, slice_index, true}
use Rattle.audit.specs.Below.{most_held, Entry, X, S, counts, held, owner, readers, MOST_BASE_PERMITS, is_lock, Start}
use Rattle.audit.specs.declared.holds.Holds.{Holds}

pub record HoldsStand (s : Start) (h : List Entry) (holds : Holds) : Type 0 where
  pub exclusive_seats : length holds.exclusive.items ≡ s.header.seats
  pub shared_seats : length holds.shared.items ≡ s.header.seats
  pub exclusive : (i : ℕ) → slice_index holds.exclusive.items i ≡ held s h i X
  pub shared : (i : ℕ) → slice_index holds.shared.items i ≡ held s h i S
  pub owns : is_lock s.header.object ≡ true → holds.owner ≡ owner (counts s h)
  pub reads : holds.readers ≡ readers (counts s h)
  pub exclusive_bound : (i : ℕ) → held s h i X ≤ most_held MOST_BASE_PERMITS h
  pub shared_bound : readers (counts s h) ≤ most_held (MOST_BASE_PERMITS * 256) h
