use Rattle.bench_pairs.proofs.trims.time_of_trims.Goals as goal

pub open-requires-clause-opened : goal.open-requires-clause-opened
open-requires-clause-opened g c = c.open-hooks.ensures.opened 16
