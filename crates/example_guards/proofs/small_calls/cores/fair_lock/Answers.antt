use Rattle.std.proofs.Common.{rules, ◌≡◌}
use Rattle.example_guards.proofs.small_calls.cores.fair_lock.Goals as goal

-- src/small_calls/cores.rt:30:5
pub open-requires-2-clause-opened : goal.open-requires-2-clause-opened
open-requires-2-clause-opened c = c.open.ensures.opened c.args.seats
