use Rattle.std.proofs.Common.{rules, ◌≡◌, ◌+◌, ◌<◌, [], ◌++◌, length, ap, refl, sym, subst, arith, ◌∙◌, None, IfNone}
use Rattle.std.proofs.Math.Nat.{zero-mul}
use Rattle.workers.proofs.Passing.{same_locks, rounds_more}
use Rattle.workers.specs.Gates.{StopsBelow, calls_of}
use Rattle.workers.proofs.Working.{calls_more, calls_within, stops_among}
use Rattle.workers.proofs.work.make_rounds.Goals as goal

pub loop-init : goal.loop-init
loop-init g c =
    let none = c.new-kept.ensures.0 in (
      omega arith,
      omega (arith, none),
      refl,
      ([], c.new-kept.ensures, (refl, refl)),
      sym (zero-mul (length c.args.worker.now.calls)),
      (λ call below. absurd (omega (arith, below))),
    )

pub make_round-requires-clause-own : goal.make_round-requires-clause-own
make_round-requires-clause-own g c =
    same_locks c.loop.passes c.args.passes.now c.loop.invariant.2 ∙ c.requires.own

pub loop-preserved : goal.loop-preserved
loop-preserved g c =
    let i = c.loop.invariant in
    let here : c.calls-calls.result.now ≡ c.args.worker.now.calls = c.calls-calls.ensures in
    let as_many : length c.calls-calls.result.now ≡ length c.args.worker.now.calls = ap length here in
    let few = c.requires.worker.few_calls in
    let recorded = c.in_ok-make_round.ensures.few in
    let so_far = i.3 in let round = c.in_ok-make_round.ensures.made in
    let first = i.0 in let before = i.1 in (
      omega (arith, as_many, few, first),
      omega (arith, as_many, few, recorded, before),
      c.make_round.ensures.same ∙ i.2,
      (
        so_far.0 ++ round.0,
        round.1 so_far.0 so_far.1,
        rounds_more c.args.seat c.loop.counter c.loop.first c.args.worker.now.calls c.calls-calls.result.now
            c.args.passes.now so_far.0 c.loop.passes round.0 c.make_round.new.passes here i.4 so_far.2 round.2,
      ),
      calls_more c.loop.counter (length c.args.worker.now.calls) c.loop.first
          (length c.calls-calls.result.now) i.4
          as_many,
      c.in_ok-make_round.ensures.asked,
    )

pub returns-in_err-make_round-clause-shut : goal.returns-in_err-make_round-clause-shut
returns-in_err-make_round-clause-shut g c =
    let answers = g.G.Gate.answers c.args.gate.now in
    let calls = length c.args.worker.now.calls in
    let as_many : length c.calls-calls.result.now ≡ calls = ap length c.calls-calls.ensures in
    let some : c.make_round.result ≡ None = search rules in
    let none : c.from_residual.result ≡ None = search rules in
    let below : c.loop.counter < c.args.worker.now.repeat = search rules in
    let shut = subst
    (λ z. IfNone z (StopsBelow answers c.args.seat (c.loop.first + length c.calls-calls.result.now)))
    some c.make_round.ensures.shut in
    subst (λ z. IfNone z (StopsBelow answers c.args.seat (calls_of c.args.worker.now))) (sym none)
    (stops_among answers c.args.seat (c.loop.first + length c.calls-calls.result.now)
    (calls_of c.args.worker.now)
    (calls_within c.loop.counter c.args.worker.now.repeat calls c.loop.first (length c.calls-calls.result.now)
    c.loop.invariant.4 as_many below) shut)
