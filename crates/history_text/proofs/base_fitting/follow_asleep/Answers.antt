use Rattle.std.proofs.Common.{arith}
use Rattle.history_text.specs.declared.base_line.BaseLine.TheVariants.{Sleeps}
use Rattle.history_text.proofs.BaseFollowed.{list_taken, none_yet, one_refused, one_taken}
use Rattle.history_text.proofs.base_fitting.follow_asleep.Goals as goal

pub loop-sleeper-init : goal.loop-sleeper-init
loop-sleeper-init c = record { left = none_yet _ _ _; inside = omega arith }

pub loop-sleeper-preserved : goal.loop-sleeper-preserved
loop-sleeper-preserved c =
    record {
      left = one_taken (Sleeps c.args.condition) c.args.list.now c.loop-sleeper.sleeper-index _ _ _
          c.loop-sleeper.invariant.left _ _ c.loop-sleeper-test.true c.if-not-follow.ensures;
      inside = omega (arith, c.loop-sleeper-test.true);
    }

pub returns-then-not-follow : goal.returns-then-not-follow
returns-then-not-follow c =
    one_refused (Sleeps c.args.condition) c.args.list.now c.loop-sleeper.sleeper-index _ _ _
    c.loop-sleeper.invariant.left _ c.loop-sleeper-test.true c.if-not-follow.ensures

pub returns : goal.returns
returns c =
    list_taken (Sleeps c.args.condition) c.args.list.now c.loop-sleeper.sleeper-index _ _ _
    c.loop-sleeper.invariant.left (omega (arith, c.loop-sleeper-test.false))
