use Rattle.std.proofs.Common.{◌≡◌, ℕ, drop, length, get_or}
use Rattle.audit.specs.Below.{sleep_of, sleep_in_line}
use Rattle.audit.specs.Waiting.{never_slept}
use Rattle.audit.specs.inner.Waiting.{or_kept}
use Rattle.audit.proofs.waiting_base.save_returning.Given as goal

-- the sleeps of those behind are kept
abbrev pub invariant-loop-place : goal.invariant-loop-place
invariant-loop-place l =
    record {
      seats : length l.last_sleep.items ≡ length l.initial.last_sleep.items;
      slept : (i : ℕ) → sleep_of (get_or l.last_sleep.items i never_slept)
          ≡ or_kept (sleep_in_line i (drop l.place l.line))
          (sleep_of (get_or l.initial.last_sleep.items i never_slept));
    }
