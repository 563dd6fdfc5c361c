-- What the four objects have, and the numbers with which they open.
use Rattle.std.specs.Prelude.{ℕ, Bool, true, false, ℤ, pos}
use Rattle.history.specs.Types.{Object, Lock, ReadWrite, Semaphore, Latch, Policy, Fair, NonFair, Strict}

-- the policies in which no new acquire, timed or untimed, barges
abbrev pub is_fair_policy : Policy → Bool
is_fair_policy Fair = true
is_fair_policy NonFair = false
is_fair_policy Strict = true

-- the policy in which no try barges either
abbrev pub is_strict_policy : Policy → Bool
is_strict_policy Fair = false
is_strict_policy NonFair = false
is_strict_policy Strict = true

-- a latch has no policy
abbrev pub is_fair : Object → Bool
is_fair (Lock policy) = is_fair_policy policy
is_fair (ReadWrite policy) = is_fair_policy policy
is_fair (Semaphore policy permits) = is_fair_policy policy
is_fair (Latch count) = false

abbrev pub is_strict : Object → Bool
is_strict (Lock policy) = is_strict_policy policy
is_strict (ReadWrite policy) = is_strict_policy policy
is_strict (Semaphore policy permits) = is_strict_policy policy
is_strict (Latch count) = false

-- a lock or a read-write lock: it has an owner and conditions, and keeps room for each hold
abbrev pub is_lock : Object → Bool
is_lock (Lock policy) = true
is_lock (ReadWrite policy) = true
is_lock (Semaphore policy permits) = false
is_lock (Latch count) = false

abbrev pub is_semaphore : Object → Bool
is_semaphore (Semaphore policy permits) = true
is_semaphore _ = false

abbrev pub is_latch : Object → Bool
is_latch (Latch count) = true
is_latch _ = false

-- the permits with which a semaphore was opened
abbrev pub created : Object → ℤ
created (Semaphore policy permits) = permits
created _ = pos 0

-- the number that a latch counts down from
abbrev pub opening_count : Object → ℕ
opening_count (Latch count) = count
opening_count _ = 0

-- how many holds a request for n is: one of a lock, n of a semaphore, none of a latch
abbrev pub in_holds : Object → ℕ → ℕ
in_holds (Lock policy) n = 1
in_holds (ReadWrite policy) n = 1
in_holds (Semaphore policy permits) n = n
in_holds (Latch count) n = 0
