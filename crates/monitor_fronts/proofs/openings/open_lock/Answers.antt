use Rattle.monitor_fronts.proofs.openings.open_lock.Goals as goal

pub open-requires-clause-opened : goal.open-requires-clause-opened
open-requires-clause-opened c = c.open-hooks.ensures.opened c.args.seats
