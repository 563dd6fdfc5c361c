-- The steps that fail and aren't recorded, in whatever state: the object lacks the mode, the step or the
-- condition, or doesn't count in such an amount.
use Rattle.std.specs.Prelude.{ℕ, ◌==◌, nat_lt, nat_le, Bool, false, ◌&&◌, ◌||◌, not}
use Rattle.history.specs.Types.{MOST_AMOUNT, Mode, Header, Object, Lock, ReadWrite, Semaphore, Latch, Step, Acquire, Try, TryFair, EntryInterrupt, Give, Drain}
use Rattle.history.specs.declared.step.Step.TheVariants.{Await, Signal, SignalAll}
use Rattle.history.specs.Entry.{is_exclusive}
use Rattle.history.specs.Object.{is_lock, is_semaphore, is_latch}

-- a lock has exclusive mode alone, a semaphore and a latch have shared mode alone
abbrev pub lacks_mode : Object → Mode → Bool
lacks_mode (Lock policy) m = not (is_exclusive m)
lacks_mode (ReadWrite policy) m = false
lacks_mode (Semaphore policy permits) m = is_exclusive m
lacks_mode (Latch count) m = is_exclusive m

abbrev pub is_wrong_mode : Object → Step → Bool
is_wrong_mode o (Acquire m n) = lacks_mode o m
is_wrong_mode o (Try m n) = lacks_mode o m || is_latch o
is_wrong_mode o (TryFair m n) = lacks_mode o m
is_wrong_mode o (EntryInterrupt m n) = lacks_mode o m
is_wrong_mode o (Give m n) = lacks_mode o m
is_wrong_mode o (Await c) = not (is_lock o)
is_wrong_mode o (Signal c) = not (is_lock o)
is_wrong_mode o (SignalAll c) = not (is_lock o)
is_wrong_mode o Drain = not (is_semaphore o)
is_wrong_mode o _ = false

abbrev pub is_no_condition : Header → Step → Bool
is_no_condition k (Await c) = nat_le k.conditions c
is_no_condition k (Signal c) = nat_le k.conditions c
is_no_condition k (SignalAll c) = nat_le k.conditions c
is_no_condition k _ = false

-- the greatest amount of a request, under the name that other crates cite
abbrev pub max_amount : ℕ
max_amount = MOST_AMOUNT

-- only a semaphore counts in amounts other than 1
abbrev pub is_bad_number : Object → ℕ → Bool
is_bad_number o n = nat_lt MOST_AMOUNT n || (not (is_semaphore o) && not (n == 1))

abbrev pub is_bad_amount : Object → Step → Bool
is_bad_amount o (Acquire m n) = is_bad_number o n
is_bad_amount o (Try m n) = is_bad_number o n
is_bad_amount o (TryFair m n) = is_bad_number o n
is_bad_amount o (EntryInterrupt m n) = is_bad_number o n
is_bad_amount o (Give m n) = is_bad_number o n
is_bad_amount o _ = false
