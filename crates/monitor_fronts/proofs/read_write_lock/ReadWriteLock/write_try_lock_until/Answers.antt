use Rattle.monitor_fronts.proofs.read_write_lock.ReadWriteLock.write_try_lock_until.Goals as goal

pub returns-clause-acquired : goal.returns-clause-acquired
returns-clause-acquired g c =
    (c.milliseconds_left-ms.result, c.milliseconds_left-ms.ensures, c.write_try_lock_for.ensures.acquired)
