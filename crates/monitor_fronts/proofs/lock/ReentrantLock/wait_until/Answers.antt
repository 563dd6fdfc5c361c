use Rattle.monitor_fronts.proofs.lock.ReentrantLock.wait_until.Goals as goal

pub returns-clause-awaited : goal.returns-clause-awaited
returns-clause-awaited g c =
    (c.milliseconds_left-ms.result, c.milliseconds_left-ms.ensures, c.wait_for.ensures.awaited)
