use Rattle.std.proofs.Common.{arith}
use Rattle.history_text.specs.declared.base_line.BaseLine.TheVariants.{Stands}
use Rattle.history_text.proofs.BaseFollowed.{list_taken, none_yet, one_refused, one_taken}
use Rattle.history_text.proofs.base_fitting.follow_standings.Goals as goal

pub loop-standing-init : goal.loop-standing-init
loop-standing-init c = record { left = none_yet _ _ _; inside = omega arith }

pub loop-standing-preserved : goal.loop-standing-preserved
loop-standing-preserved c =
    record {
      left = one_taken Stands c.args.line.now c.loop-standing.standing-index _ _ _
          c.loop-standing.invariant.left _ _ c.loop-standing-test.true c.if-not-follow.ensures;
      inside = omega (arith, c.loop-standing-test.true);
    }

pub returns-then-not-follow : goal.returns-then-not-follow
returns-then-not-follow c =
    one_refused Stands c.args.line.now c.loop-standing.standing-index _ _ _ c.loop-standing.invariant.left _
    c.loop-standing-test.true c.if-not-follow.ensures

pub returns : goal.returns
returns c =
    list_taken Stands c.args.line.now c.loop-standing.standing-index _ _ _ c.loop-standing.invariant.left
    (omega (arith, c.loop-standing-test.false))
