use Rattle.std.proofs.Common.{◌∷◌, ◌++◌, [], List, append_assoc, arith, subst}
use Rattle.driver.specs.Below.{Act, steps_form}
use Rattle.driver.specs.Prelude.{progress, WereRead}
use Rattle.driver.proofs.ReadingAhead.{goes_on}
use Rattle.driver.proofs.StepsAhead.{never_all}
use Rattle.driver.proofs.step_reader.StepReader.read_to_fault.Goals as goal

pub loop-preserved : goal.loop-preserved
loop-preserved g c =
    let was = c.loop.invariant in
    let next = rw c.in-Some.is at c.in_ok-next.ensures.next in
    let act = c.in-Some.field-0 in
    record {
      going = goes_on c.in_ok-next.field-0 (g.R.Source.failed c.next.new.reader)
          (λ t. c.in_ok-next.ensures.failing.1 t);
      many = omega (arith, was.many, rw c.in-Some.is at c.in_ok-next.ensures.counted);
      read = (
        was.read.0 ++ act ∷ [],
        λ text items were.
            subst (λ (l : List Act). WereRead steps_form text
            (progress c.next.new.self (g.R.Source.left c.next.new.reader)) l)
            (append_assoc items was.read.0 (act ∷ []))
            (next text (items ++ was.read.0) (was.read.1 text items were)),
      );
    }

pub returns-clause-none : goal.returns-clause-none
returns-clause-none g c =
    let was = c.loop.invariant in
    never_all (progress c.args.self.now (g.R.Source.left c.args.reader.now)) c.loop.self
    (g.R.Source.left c.loop.reader) (g.R.Source.left c.next.new.reader) was.read.0
    (progress c.next.new.self (g.R.Source.left c.next.new.reader)) was.many
    (rw c.in_default.is at c.in_ok-next.ensures.next) was.read.1
