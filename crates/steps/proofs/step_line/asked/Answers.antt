use Rattle.std.proofs.Common.{rules, arith}
use Rattle.steps.specs.StepReading.{asked_at}
use Rattle.steps.proofs.step_line.asked.Goals as goal

pub returns-clause-found : goal.returns-clause-found
unfolding asked_at
returns-clause-found c = search (rules, arith)

pub returns-clause-is : goal.returns-clause-is
unfolding asked_at
returns-clause-is c = search rules
