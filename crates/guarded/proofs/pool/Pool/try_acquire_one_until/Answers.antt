use Rattle.guarded.proofs.pool.Pool.try_acquire_one_until.Goals as goal

pub returns-clause-returned : goal.returns-clause-returned
returns-clause-returned g c =
    (c.milliseconds_left-ms.result, c.milliseconds_left-ms.ensures, c.try_acquire_one_for.ensures.returned)
