use Rattle.bench_pairs.proofs.closes.open_and_close.Goals as goal

pub open-requires-clause-opened : goal.open-requires-clause-opened
open-requires-clause-opened g c = c.open-hooks.ensures.opened c.args.seats
