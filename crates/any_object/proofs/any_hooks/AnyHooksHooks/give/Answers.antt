use Rattle.any_object.proofs.Known.{of_lock, of_rw, of_semaphore, of_latch}
use Rattle.any_object.proofs.any_hooks.AnyHooksHooks.give.Goals as goal

pub returns-in-Lock-clause-word : goal.returns-in-Lock-clause-word
returns-in-Lock-clause-word c k stands =
    c.give.ensures.word k (of_lock c.args.self.now c.in-Lock.hooks k c.in-Lock.is stands)

pub returns-in-ReadWrite-clause-word : goal.returns-in-ReadWrite-clause-word
returns-in-ReadWrite-clause-word c k stands =
    c.give-in-ReadWrite.ensures.word k (of_rw c.args.self.now c.in-ReadWrite.hooks k c.in-ReadWrite.is stands)

pub returns-in-Semaphore-clause-word : goal.returns-in-Semaphore-clause-word
returns-in-Semaphore-clause-word c k stands =
    c.give-in-Semaphore.ensures.word k (of_semaphore c.args.self.now c.in-Semaphore.hooks k
    c.in-Semaphore.is stands)

pub returns-in-Latch-clause-word : goal.returns-in-Latch-clause-word
returns-in-Latch-clause-word c k stands =
    c.give-in-Latch.ensures.word k (of_latch c.args.self.now c.in-Latch.hooks k c.in-Latch.is stands)
