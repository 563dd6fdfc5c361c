use Rattle.std.proofs.Common.{◌≡◌, ℕ, length, get_or}
use Rattle.audit.specs.Below.{sleep_of, sleep_below}
use Rattle.audit.specs.Waiting.{never_slept}
use Rattle.audit.specs.inner.Waiting.{or_kept}
use Rattle.audit.proofs.waiting_base.save_sleepers.Given as goal

-- the sleeps on the conditions passed are kept
abbrev pub invariant-loop-condition : goal.invariant-loop-condition
invariant-loop-condition l =
    record {
      seats : length l.last_sleep.items ≡ length l.initial.last_sleep.items;
      slept : (i : ℕ) → sleep_of (get_or l.last_sleep.items i never_slept)
          ≡ or_kept (sleep_below l.condition l.base i)
          (sleep_of (get_or l.initial.last_sleep.items i never_slept));
    }
