use Rattle.std.proofs.Common.{rules, ◌≡◌, true, false, sym, subst, arith}
use Rattle.std.proofs.lemmas.Fn.{says_at}
use Rattle.guarded.specs.Prelude.{MutexView, AwaitsUntil, HasCome, owner}
use Rattle.guarded.proofs.Calling.{waits_on}
use Rattle.guarded.proofs.Waits.{has_come, then_failed, waited_again}
use Rattle.guarded.proofs.guard.Guard.wait_while_until.Goals as goal

pub returns-then-not-predicate-clause-over : goal.returns-then-not-predicate-clause-over
returns-then-not-predicate-clause-over g c =
    let is : c.predicate.result ≡ false = search rules in
    (c.value.result.now, sym c.value.ensures.value, says_at g.F.Fn c.predicate.ensures is)

pub returns-then-left-eq0-clause-over : goal.returns-then-left-eq0-clause-over
returns-then-left-eq0-clause-over g c =
    let is : c.predicate.result ≡ true = search rules in
    (c.value.result.now, sym c.value.ensures.value, says_at g.F.Fn c.predicate.ensures is)

pub returns-then-left-eq0-clause-in_time : goal.returns-then-left-eq0-clause-in_time
returns-then-left-eq0-clause-in_time g c = λ _.
    subst (λ (place : _). HasCome (g.P.Parking.did place) c.args.moment) c.loop.invariant.2.stays.same_parking
    (has_come (g.P.Parking.did c.loop.self.parking.now) c.args.moment c.milliseconds_left-left.result
    c.milliseconds_left-left.ensures c.if-left-eq0.true)

pub loop-preserved : goal.loop-preserved
loop-preserved g c =
    let is : c.predicate.result ≡ true = search rules in (
      tt,
      tt,
      waits_on c.loop.invariant.2 c.wait_for.ensures.stays,
      waited_again _ (λ (m : MutexView) (place : _). AwaitsUntil (g.P.Parking.did place) m.when_full
          c.args.condition c.args.moment) _
          c.loop.invariant.2.stays.same_lock c.loop.invariant.2.stays.same_parking c.loop.invariant.3
          (c.value.result.now, sym c.value.ensures.value, says_at g.F.Fn c.predicate.ensures is)
          c.in_ok-wait_for.field-0 (
            c.milliseconds_left-left.result,
            c.milliseconds_left-left.ensures,
            omega (arith, c.if-left-eq0.false),
            c.in_ok-wait_for.ensures.awaited,
          ),
    )

pub returns-in_err-wait_for-clause-failed : goal.returns-in_err-wait_for-clause-failed
returns-in_err-wait_for-clause-failed g c =
    let is : c.predicate.result ≡ true = search rules in
    let failed = then_failed _ (λ (m : MutexView) (place : _). AwaitsUntil (g.P.Parking.did place) m.when_full
    c.args.condition c.args.moment)
    (owner c.wait_for.new.self.pass.now c.wait_for.new.self.slot)
    c.loop.invariant.2.stays.same_lock c.loop.invariant.2.stays.same_parking c.loop.invariant.3
    (c.value.result.now, sym c.value.ensures.value, says_at g.F.Fn c.predicate.ensures is)
    c.in_err-wait_for.field-0.0 (
      c.milliseconds_left-left.result,
      c.milliseconds_left-left.ensures,
      omega (arith, c.if-left-eq0.false),
      c.in_err-wait_for.ensures.awaited,
    ) in
    search rules
