use Rattle.bench_pairs.proofs.monitor_pairs.kind.count_pairs.Goals as goal

pub count-requires-clause-opened : goal.count-requires-clause-opened
count-requires-clause-opened g c κs within = c.open-hooks.ensures.opened c.args.threads

pub count-requires-in-FairLock-clause-opened : goal.count-requires-in-FairLock-clause-opened
count-requires-in-FairLock-clause-opened g c κs within =
    c.open-hooks-in-FairLock.ensures.opened c.args.threads

pub count-requires-in-Semaphore-clause-opened : goal.count-requires-in-Semaphore-clause-opened
count-requires-in-Semaphore-clause-opened g c κs within =
    c.open-hooks-in-Semaphore.ensures.opened c.args.threads
