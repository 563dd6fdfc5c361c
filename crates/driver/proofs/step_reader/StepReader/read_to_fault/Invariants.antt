use Rattle.std.proofs.Common.{◌≡◌, ◌-◌, ◌≤◌, ◌^◌, List, false}
use Rattle.frame.specs.declared.acts.Act.{Act}
use Rattle.driver.specs.StepReader.{progress}
use Rattle.driver.specs.inner.StepReader.{ReadMore}
use Rattle.driver.proofs.step_reader.StepReader.read_to_fault.Given as goal

abbrev pub invariant-loop : goal.invariant-loop
invariant-loop g l = record {
  going : g.R.Source.failed l.reader ≡ false;
  many : 2 ^ 32 ≤ l.self.count;
  read : (more : List Act) × ReadMore (progress l.fn.self (g.R.Source.left l.fn.reader)) more
      (progress l.self (g.R.Source.left l.reader));
}

abbrev pub decreases-loop : goal.decreases-loop
decreases-loop g l = 2 ^ 64 - l.self.count
