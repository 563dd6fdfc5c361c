use Rattle.monitor_fronts.proofs.latch.Latch.await_zero_until.Goals as goal

pub returns-clause-acquired : goal.returns-clause-acquired
returns-clause-acquired g c =
    (c.milliseconds_left-ms.result, c.milliseconds_left-ms.ensures, c.await_zero_for.ensures.acquired)
