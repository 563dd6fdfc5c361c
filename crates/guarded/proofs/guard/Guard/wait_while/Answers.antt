use Rattle.std.proofs.Common.{rules, ◌≡◌, true, false, sym}
use Rattle.std.proofs.lemmas.Fn.{says_at}
use Rattle.monitor.specs.declared.how.How.TheVariants.{Interruptible}
use Rattle.guarded.specs.Prelude.{CallReturns, awaits, MutexView, owner}
use Rattle.guarded.proofs.Calling.{waits_on}
use Rattle.guarded.proofs.Waits.{then_failed, waited_again}
use Rattle.guarded.proofs.guard.Guard.wait_while.Goals as goal

pub returns-then-not-predicate-clause-over : goal.returns-then-not-predicate-clause-over
returns-then-not-predicate-clause-over g c =
    let is : c.predicate.result ≡ false = search rules in
    (c.value.result.now, sym c.value.ensures.value, says_at g.F.Fn c.predicate.ensures is)

pub loop-preserved : goal.loop-preserved
loop-preserved g c =
    let is : c.predicate.result ≡ true = search rules in (
      tt,
      tt,
      waits_on c.loop.invariant.2 c.wait.ensures.stays,
      waited_again _ (λ (m : MutexView) (place : _). CallReturns m.when_full
          (awaits (g.P.Parking.did place) c.args.condition Interruptible)) _
          c.loop.invariant.2.stays.same_lock c.loop.invariant.2.stays.same_parking c.loop.invariant.3
          (c.value.result.now, sym c.value.ensures.value, says_at g.F.Fn c.predicate.ensures is)
          c.in_ok-wait.field-0 c.in_ok-wait.ensures.awaited,
    )

pub returns-in_err-wait-clause-failed : goal.returns-in_err-wait-clause-failed
returns-in_err-wait-clause-failed g c =
    let is : c.predicate.result ≡ true = search rules in
    let failed = then_failed _ (λ (m : MutexView) (place : _). CallReturns m.when_full
    (awaits (g.P.Parking.did place) c.args.condition Interruptible))
    (owner c.wait.new.self.pass.now c.wait.new.self.slot)
    c.loop.invariant.2.stays.same_lock c.loop.invariant.2.stays.same_parking c.loop.invariant.3
    (c.value.result.now, sym c.value.ensures.value, says_at g.F.Fn c.predicate.ensures is)
    c.in_err-wait.field-0.0 c.in_err-wait.ensures.awaited in
    search rules
