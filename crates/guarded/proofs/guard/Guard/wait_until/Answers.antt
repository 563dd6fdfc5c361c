use Rattle.guarded.proofs.guard.Guard.wait_until.Goals as goal

pub returns-clause-awaited : goal.returns-clause-awaited
returns-clause-awaited g c =
    (c.milliseconds_left-ms.result, c.milliseconds_left-ms.ensures, c.wait_for.ensures.awaited)
