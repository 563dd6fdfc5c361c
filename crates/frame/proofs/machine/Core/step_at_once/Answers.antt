use Rattle.std.proofs.Common.{sym}
use Rattle.frame.proofs.AtOnce.{stepped_alone}
use Rattle.frame.proofs.machine.Core.step_at_once.Goals as goal

pub returns-in-Some-clause-done : goal.returns-in-Some-clause-done
returns-in-Some-clause-done g c =
    let done = c.in-Some.ensures.done in
    rw (sym done.is)
    (stepped_alone c.args.self.now c.step_alone.new.self c.args.seat c.args.step c.in-Some._entry done)
