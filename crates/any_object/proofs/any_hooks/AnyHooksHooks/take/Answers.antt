use Rattle.any_object.proofs.Known.{of_rw}
use Rattle.any_object.proofs.any_hooks.AnyHooksHooks.take.Goals as goal

pub returns-in-ReadWrite-clause-taken : goal.returns-in-ReadWrite-clause-taken
returns-in-ReadWrite-clause-taken c k stands seat =
    c.take-in-ReadWrite.ensures.taken k
    (of_rw c.args.self.now c.in-ReadWrite.hooks k c.in-ReadWrite.is stands) seat
