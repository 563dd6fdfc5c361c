use Rattle.monitor_fronts.proofs.semaphore.Semaphore.try_acquire_until.Goals as goal

pub returns-clause-acquired : goal.returns-clause-acquired
returns-clause-acquired g c =
    (c.milliseconds_left-ms.result, c.milliseconds_left-ms.ensures, c.try_acquire_for.ensures.acquired)
