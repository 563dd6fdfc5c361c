use Rattle.std.proofs.Common.{arith, rules}
use Rattle.std.proofs.lemmas.List.Elements.{All-more}
use Rattle.script.specs.Script.{IsCall}
use Rattle.script.proofs.Firsts.{to_the_end}
use Rattle.script.proofs.building.bad_call.Goals as goal

pub loop-place-preserved : goal.loop-place-preserved
loop-place-preserved c =
    All-more (IsCall c.args.objects c.args.threads) c.args.calls.now c.loop-place.place _
    c.loop-place-test.true c.loop-place.invariant (c.is_call.ensures.0 (search rules))

pub returns-clause-none : goal.returns-clause-none
returns-clause-none c =
    to_the_end (IsCall c.args.objects c.args.threads) c.args.calls.now c.loop-place.place
    (omega (arith, c.loop-place-test.false)) c.loop-place.invariant
