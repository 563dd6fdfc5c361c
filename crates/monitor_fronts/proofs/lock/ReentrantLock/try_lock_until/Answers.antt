use Rattle.monitor_fronts.proofs.lock.ReentrantLock.try_lock_until.Goals as goal

pub returns-clause-acquired : goal.returns-clause-acquired
returns-clause-acquired g c =
    (c.milliseconds_left-ms.result, c.milliseconds_left-ms.ensures, c.try_lock_for.ensures.acquired)
