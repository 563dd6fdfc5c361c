use Rattle.guarded.specs.Guarding.{CanLock}
use Rattle.example_guards.proofs.accounts.pay_often.Given as goal

abbrev pub invariant-loop : goal.invariant-loop
invariant-loop g l = CanLock l.fn.lock (g.P.Parking.seats l.fn.parking) l.pass
