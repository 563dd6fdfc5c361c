use Rattle.any_object.proofs.any_hooks.AnyHooks.open.Goals as goal

pub returns-in-Lock-clause-opened : goal.returns-in-Lock-clause-opened
returns-in-Lock-clause-opened c = c.open.ensures.opened c.args.header.now.seats

pub returns-in-Semaphore-clause-opened : goal.returns-in-Semaphore-clause-opened
returns-in-Semaphore-clause-opened c = c.open-in-Semaphore.ensures.opened c.args.header.now.seats

pub returns-in-Latch-clause-opened : goal.returns-in-Latch-clause-opened
returns-in-Latch-clause-opened c = c.open-in-Latch.ensures.opened c.args.header.now.seats
