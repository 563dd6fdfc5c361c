use Rattle.std.proofs.Common.{◌≡◌, ◌-◌, ◌^◌, [], false}
use Rattle.driver.specs.StepReader.{progress}
use Rattle.driver.specs.inner.Answering.{Answered}
use Rattle.driver.proofs.replay.replay.Given as goal

abbrev pub invariant-loop-tape : goal.invariant-loop-tape
invariant-loop-tape g l = record {
  going : g.R.Source.failed l.reader ≡ false;
  answered : Answered (progress l.fn.steps (g.R.Source.left l.fn.reader))
      (progress l.steps (g.R.Source.left l.reader)) l.fn.core (record { lines = []; count = 0 }) l.core l.tape;
}

abbrev pub decreases-loop-tape : goal.decreases-loop-tape
decreases-loop-tape g l = 2 ^ 64 - l.steps.count
