use Rattle.monitor_fronts.proofs.read_write_lock.ReadWriteLock.write_wait_until.Goals as goal

pub returns-clause-awaited : goal.returns-clause-awaited
returns-clause-awaited g c =
    (c.milliseconds_left-ms.result, c.milliseconds_left-ms.ensures, c.write_wait_for.ensures.awaited)
