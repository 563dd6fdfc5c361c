use Rattle.std.specs.Fn.{FnReturnsAt}
use Rattle.guarded.specs.Prelude.{HasWaited, AwaitsUntil, Waited, WaitsWhile, owner}
use Rattle.guarded.proofs.guard.Guard.wait_while_until.Given as goal

abbrev pub invariant-loop : goal.invariant-loop
invariant-loop g l =
    (goal.iterator-loop g).can_next l.iterator' × (goal.iterator-loop g).is_finite l.iterator'
    × HasWaited (g.P.Parking.seats l.self.parking.now) g.I.Keeps.invariant l.fn.self l.self
    × Waited
    (WaitsWhile (FnReturnsAt g.F.Fn l.fn.predicate) (AwaitsUntil (g.P.Parking.did l.fn.self.parking.now)
    l.fn.self.lock.now.when_full l.fn.condition l.fn.moment))
    (owner l.fn.self.pass.now l.fn.self.slot) (owner l.self.pass.now l.self.slot)
