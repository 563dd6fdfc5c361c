-- How the interrupts that a call took were settled.
use Rattle.std.specs.Prelude.{Result}
use Rattle.monitor.specs.Below.{Entry, Fault}

-- They were settled by this reply: it tells them, or they are pending again. What it means stays hidden, so
-- that a contract which promises it is met only by the call that settles by this reply.
pub IsSettled : Result Entry Fault → Type 0
IsSettled reply = Unit {0}

-- for `Interrupts.settle` alone
pub settled : (reply : Result Entry Fault) → IsSettled reply
unfolding IsSettled
settled reply = tt
