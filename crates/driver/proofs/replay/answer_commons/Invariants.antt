use Rattle.std.proofs.Common.{◌-◌, ◌≤◌, ◌^◌, ℕ, List, Option}
use Rattle.driver.specs.StepReader.{progress}
use Rattle.driver.specs.inner.Answering.{Answered}
use Rattle.driver.proofs.replay.answer_commons.Given as goal

abbrev pub invariant-loop-seat : goal.invariant-loop-seat
invariant-loop-seat g l = record {
  further : l.fn.steps.count ≤ l.steps.count;
  answered : (left : Option (List ℕ)) → Answered (progress l.fn.steps left) (progress l.steps left) l.fn.core
      l.fn.tape l.core l.tape;
}

abbrev pub decreases-loop-seat : goal.decreases-loop-seat
decreases-loop-seat g l = 2 ^ 64 - l.steps.count
