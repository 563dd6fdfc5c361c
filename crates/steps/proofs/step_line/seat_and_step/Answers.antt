use Rattle.std.proofs.Common.{rules}
use Rattle.steps.proofs.step_line.seat_and_step.Goals as goal

pub returns-in_err-seat-clause-is : goal.returns-in_err-seat-clause-is
returns-in_err-seat-clause-is c = search rules

pub returns-clause-is : goal.returns-clause-is
returns-clause-is c = search rules

pub returns-clause-found : goal.returns-clause-found
returns-clause-found c = search rules
