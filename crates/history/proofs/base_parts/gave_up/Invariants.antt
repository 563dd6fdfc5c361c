use Rattle.std.proofs.Common.{◌≡◌, ℕ, drop}
use Rattle.history.specs.Base.{sleep_on}
use Rattle.history.proofs.base_parts.gave_up.Given as goal

abbrev pub invariant-loop-sleeper : goal.invariant-loop-sleeper
invariant-loop-sleeper l =
    (c : ℕ) → sleep_on c l.seat (drop l.sleeper-index l.asleep) ≡ sleep_on c l.seat l.asleep
