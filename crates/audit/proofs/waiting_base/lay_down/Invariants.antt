use Rattle.std.proofs.Common.{◌≡◌, ◌<◌, ◌≤◌, ℕ, false, [], None}
use Rattle.audit.specs.Below.{asleep_on, sleeper_of, has}
use Rattle.audit.proofs.waiting_base.lay_down.Given as goal
use Rattle.history.specs.inner.BaseSleepers.{sleeping_seats}

-- the sleepers of the conditions passed sleep, and nobody else
abbrev pub invariant-loop-condition : goal.invariant-loop-condition
invariant-loop-condition l =
    record {
      lists : (c : ℕ) → c < l.condition → asleep_on l.asleep c ≡ sleeping_seats l.base c;
      above : (c : ℕ) → l.condition ≤ c → asleep_on l.asleep c ≡ [];
      awake : (i : ℕ) → ((c : ℕ) → c < l.condition → has i (sleeping_seats l.base c) ≡ false) →
          sleeper_of l.asleep i ≡ None;
      conditions : l.asleep.conditions ≡ l.initial.asleep.conditions;
      seats : l.asleep.seats ≡ l.initial.asleep.seats;
    }
