use Rattle.any_object.proofs.Known.{of_lock, of_rw, of_semaphore, of_latch}
use Rattle.any_object.proofs.any_hooks.AnyHooksHooks.drain.Goals as goal

pub returns-in-Lock-clause-drained : goal.returns-in-Lock-clause-drained
returns-in-Lock-clause-drained c k who stands =
    c.drain.ensures.drained k who (of_lock c.args.self.now c.in-Lock.hooks k c.in-Lock.is stands)

pub returns-in-ReadWrite-clause-drained : goal.returns-in-ReadWrite-clause-drained
returns-in-ReadWrite-clause-drained c k who stands =
    c.drain-in-ReadWrite.ensures.drained k who (of_rw c.args.self.now c.in-ReadWrite.hooks k
    c.in-ReadWrite.is stands)

pub returns-in-Semaphore-clause-drained : goal.returns-in-Semaphore-clause-drained
returns-in-Semaphore-clause-drained c k who stands =
    c.drain-in-Semaphore.ensures.drained k who (of_semaphore c.args.self.now c.in-Semaphore.hooks k
    c.in-Semaphore.is stands)

pub returns-in-Latch-clause-drained : goal.returns-in-Latch-clause-drained
returns-in-Latch-clause-drained c k who stands =
    c.drain-in-Latch.ensures.drained k who (of_latch c.args.self.now c.in-Latch.hooks k c.in-Latch.is stands)
