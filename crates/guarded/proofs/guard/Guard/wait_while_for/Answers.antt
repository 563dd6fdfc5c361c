use Rattle.std.proofs.Common.{ℕ, Bool}
use Rattle.std.specs.Fn.{FnReturnsAt}
use Rattle.history.specs.declared.fault.Fault.{Fault}
use Rattle.guarded.specs.Prelude.{AwaitsUntil, WaitFailed, Waited, WaitsWhile, owner}
use Rattle.guarded.proofs.Waits.{err_since, ok_since, was_up}
use Rattle.guarded.proofs.guard.Guard.wait_while_for.Goals as goal

pub returns-clause-in_time : goal.returns-clause-in_time
returns-clause-in_time g c = λ told.
    was_up (g.P.Parking.did c.args.self.now.parking.now) c.now-begun.result c.args.ms c.moment_after.result
    c.now-begun.ensures c.moment_after.ensures (c.wait_while_until.ensures.in_time told)

pub returns-clause-waited : goal.returns-clause-waited
returns-clause-waited g c =
    let did = g.P.Parking.did c.args.self.now.parking.now in
    ok_since did c.now-begun.result c.args.ms c.moment_after.result c.now-begun.ensures c.moment_after.ensures
    (λ (end : ℕ) (is_over : Bool). Waited
    (WaitsWhile (FnReturnsAt g.F.Fn c.args.predicate) (AwaitsUntil did
    c.args.self.now.lock.now.when_full c.args.condition end))
    (owner c.args.self.now.pass.now c.args.self.now.slot)
    (owner c.wait_while_until.new.self.pass.now c.wait_while_until.new.self.slot))
    c.wait_while_until.result c.wait_while_until.ensures.waited

pub returns-clause-failed : goal.returns-clause-failed
returns-clause-failed g c =
    let did = g.P.Parking.did c.args.self.now.parking.now in
    err_since did c.now-begun.result c.args.ms c.moment_after.result c.now-begun.ensures c.moment_after.ensures
    (λ (end : ℕ) (fault : Fault). WaitFailed
    (WaitsWhile (FnReturnsAt g.F.Fn c.args.predicate) (AwaitsUntil did
    c.args.self.now.lock.now.when_full c.args.condition end))
    (owner c.args.self.now.pass.now c.args.self.now.slot)
    (owner c.wait_while_until.new.self.pass.now c.wait_while_until.new.self.slot) fault)
    c.wait_while_until.result c.wait_while_until.ensures.failed
