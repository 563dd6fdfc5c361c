use Rattle.std.proofs.Common.{◌≡◌, ℕ, ◌==◌, false, cond, map, take}
use Rattle.audit.specs.Below.{asleep_on, sleeper_of, has}
use Rattle.audit.proofs.waiting_base.lay_on.Given as goal

-- those passed sleep on the condition, and the others as before
abbrev pub invariant-loop-sleeper : goal.invariant-loop-sleeper
invariant-loop-sleeper l =
    record {
      lists : (c : ℕ) → asleep_on l.asleep c
          ≡ cond (l.condition == c) (map (λ x. x.seat) (take l.sleeper-index l.sleepers))
          (asleep_on l.initial.asleep c);
      others : (i : ℕ) → has i (map (λ x. x.seat) (take l.sleeper-index l.sleepers)) ≡ false →
          sleeper_of l.asleep i ≡ sleeper_of l.initial.asleep i;
      conditions : l.asleep.conditions ≡ l.initial.asleep.conditions;
      seats : l.asleep.seats ≡ l.initial.asleep.seats;
    }
