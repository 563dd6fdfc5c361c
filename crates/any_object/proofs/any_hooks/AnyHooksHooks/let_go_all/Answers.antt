use Rattle.any_object.proofs.Known.{of_lock, of_rw, of_semaphore, of_latch}
use Rattle.std.proofs.lemmas.Result.{on_ok_weaker}
use Rattle.any_object.proofs.any_hooks.AnyHooksHooks.let_go_all.Goals as goal

pub returns-in-Lock-clause-ok : goal.returns-in-Lock-clause-ok
returns-in-Lock-clause-ok c =
    on_ok_weaker c.let_go_all.result
    (λ kept k stands. kept k (of_lock c.args.self.now c.in-Lock.hooks k c.in-Lock.is stands))
    c.let_go_all.ensures.ok

pub returns-in-ReadWrite-clause-ok : goal.returns-in-ReadWrite-clause-ok
returns-in-ReadWrite-clause-ok c =
    on_ok_weaker c.let_go_all-in-ReadWrite.result
    (λ kept k stands. kept k (of_rw c.args.self.now c.in-ReadWrite.hooks k c.in-ReadWrite.is stands))
    c.let_go_all-in-ReadWrite.ensures.ok

pub returns-in-Semaphore-clause-ok : goal.returns-in-Semaphore-clause-ok
returns-in-Semaphore-clause-ok c =
    on_ok_weaker c.let_go_all-in-Semaphore.result
    (λ kept k stands. kept k (of_semaphore c.args.self.now c.in-Semaphore.hooks k c.in-Semaphore.is stands))
    c.let_go_all-in-Semaphore.ensures.ok

pub returns-in-Latch-clause-ok : goal.returns-in-Latch-clause-ok
returns-in-Latch-clause-ok c =
    on_ok_weaker c.let_go_all-in-Latch.result
    (λ kept k stands. kept k (of_latch c.args.self.now c.in-Latch.hooks k c.in-Latch.is stands))
    c.let_go_all-in-Latch.ensures.ok
