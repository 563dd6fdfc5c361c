use Rattle.std.proofs.Common.{rules}
use Rattle.history_text.proofs.history_text.put_head.Goals as goal

pub returns-in-Err-clause-err : goal.returns-in-Err-clause-err
returns-in-Err-clause-err c = search rules
