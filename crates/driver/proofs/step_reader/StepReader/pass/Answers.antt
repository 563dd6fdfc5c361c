use Rattle.std.proofs.Common.{rules}
use Rattle.driver.proofs.step_reader.StepReader.pass.Goals as goal

pub returns-clause-ok : goal.returns-clause-ok
returns-clause-ok c = search rules
