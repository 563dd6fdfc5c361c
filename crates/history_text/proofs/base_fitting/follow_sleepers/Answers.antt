use Rattle.std.proofs.Common.{◌+◌, ◌<◌, drop, length, map, ap, arith}
use Rattle.history_text.specs.Below.{Base}
use Rattle.history_text.specs.Prelude.{Sleeps, sleeper_lines}
use Rattle.history_text.proofs.BaseFollowed.{refused, sleepers_left, taken}
use Rattle.history_text.proofs.base_fitting.follow_sleepers.Goals as goal

pub returns-then-not-follow_asleep : goal.returns-then-not-follow_asleep
returns-then-not-follow_asleep c =
    let i = c.loop-condition.condition in
    let lists = c.args.base.now.sleepers in
    let same = ap (λ (b : Base). b.header.conditions) c.base.view_is in
    let inside : i < length lists =
    omega (arith, c.loop-condition-test.true, c.requires.shape.conditions, same) in
    refused _ _ _ _ _ (map (Sleeps i) c.sleepers_of.result.now) (sleeper_lines (i + 1) (drop (i + 1) lists))
    (sleepers_left lists i c.sleepers_of.result.now inside c.sleepers_of.ensures)
    c.loop-condition.invariant.left c.if-not-follow_asleep.ensures

pub loop-condition-preserved : goal.loop-condition-preserved
loop-condition-preserved c =
    let i = c.loop-condition.condition in
    let lists = c.args.base.now.sleepers in
    let same = ap (λ (b : Base). b.header.conditions) c.base.view_is in
    let inside : i < length lists =
    omega (arith, c.loop-condition-test.true, c.requires.shape.conditions, same) in
    record {
      left = taken _ _ _ _ _ _ (map (Sleeps i) c.sleepers_of.result.now)
          (sleeper_lines (i + 1) (drop (i + 1) lists))
          (sleepers_left lists i c.sleepers_of.result.now inside c.sleepers_of.ensures)
          c.loop-condition.invariant.left c.if-not-follow_asleep.ensures;
      inside = omega (arith, c.loop-condition-test.true, same);
    }
