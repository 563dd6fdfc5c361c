use Rattle.std.proofs.Common.{rules, true, ◌≡◌, ◌<◌, ◌≤◌, [], arith, length, refl, reverse, subst, take_all, ◌∙◌}
use Rattle.workers.specs.Calls.{Made}
use Rattle.workers.proofs.Keeping.{adds_none, kept_next}
use Rattle.workers.proofs.Passing.{same_locks}
use Rattle.workers.proofs.Working.{lets_more}
use Rattle.workers.proofs.work.make_round.Goals as goal

pub loop-call-init : goal.loop-call-init
loop-call-init g c =
    (omega arith, omega arith, refl, ([], adds_none c.args.kept.now, (refl, refl)), c.requires.asked)

pub make_call-fault-requires-clause-own : goal.make_call-fault-requires-clause-own
make_call-fault-requires-clause-own g c =
    same_locks c.loop-call.passes c.args.passes.now c.loop-call.invariant.2 ∙ c.requires.own

pub loop-call-preserved : goal.loop-call-preserved
loop-call-preserved g c =
    let i = c.loop-call.invariant in
    let number = i.0 in let before = i.1 in let few = c.add.ensures.few in
    let below : c.loop-call.call-index < length c.args.calls.now = search rules in
    let allowed : c.before-in-loop-call.result ≡ true = search rules in
    let so_far = i.3 in let called = c.make_call-fault.ensures.called in (
      omega (arith, number),
      omega (arith, before, few),
      c.make_call-fault.ensures.same ∙ i.2,
      kept_next c.args.seat c.args.first c.args.calls.now c.loop-call.call-index c.loop-call.number _
          c.args.passes.now so_far.0 c.loop-call.passes c.make_call-fault.result c.make_call-fault.new.passes
          c.args.kept.now c.loop-call.kept c.add.new.self below number so_far.2 called so_far.1
          c.add.ensures.adds,
      lets_more (g.G.Gate.answers c.args.gate.now) c.args.seat c.loop-call.number
          c.before-in-loop-call.result allowed
          c.before-in-loop-call.ensures i.4,
    )

pub returns-clause-made : goal.returns-clause-made
returns-clause-made g c =
    let so_far = c.loop-call.invariant.3 in
    let all : length c.args.calls.now ≤ c.loop-call.call-index = search rules in (
      so_far.0,
      so_far.1,
      subst (λ z. Made c.args.seat c.args.first (reverse z) c.args.passes.now so_far.0 c.loop-call.passes)
          (take_all c.loop-call.call-index c.args.calls.now all) so_far.2,
    )
