use Rattle.std.proofs.Common.{rules}
use Rattle.driver.proofs.answer_line.put_waking.Goals as goal

pub returns-in-Some-clause-named : goal.returns-in-Some-clause-named
returns-in-Some-clause-named c = search rules
