-- An object's totals.
use Rattle.std.specs.Prelude.{if◌then◌else◌, ◌<◌, ◌^◌, ℕ, List, length, ℤ, pos}
use Rattle.deciding.specs.Below.{Entry, Mode, X, S, count, free, held, total, line, is_semaphore, sleepers, Start}
use Rattle.deciding.specs.declared.balance.Balance.{Balance}

-- the free permits of a semaphore, and 0 for any other object
abbrev pub available : Start → List Entry → ℤ
available s h = if is_semaphore s.header.object then free s h else pos 0

-- the holds of all seats in a mode
abbrev pub held_by_all : Start → List Entry → Mode → ℕ
held_by_all s h m = total s.header.seats (λ i. held s h i m)

-- how many seats wait, over all conditions
abbrev pub all_asleep : Start → List Entry → ℕ
all_asleep s h = total s.header.conditions (λ c. length (sleepers s h c))

abbrev pub balance : Start → List Entry → Balance
balance s h =
    record {
      exclusive = held_by_all s h X;
      shared = held_by_all s h S;
      line = length (line s h);
      sleepers = all_asleep s h;
      available = available s h;
      count = count s h;
    }

-- a state that represents some history of fewer than 2^32 entries
abbrev pub HasShortHistory : {A : Type 0} → (Start → List Entry → A → Type 0) → A → Type 0
HasShortHistory stands state = (s : Start) × (h : List Entry) × stands s h state × (length h < 2 ^ 32)
