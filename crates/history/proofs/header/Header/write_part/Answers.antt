use Rattle.std.proofs.Common.{rules}
use Rattle.history.proofs.header.Header.write_part.Goals as goal

pub returns-in-Err-clause-err : goal.returns-in-Err-clause-err
returns-in-Err-clause-err c = search rules
