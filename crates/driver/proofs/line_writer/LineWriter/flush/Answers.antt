use Rattle.std.proofs.Common.{rules}
use Rattle.driver.proofs.line_writer.LineWriter.flush.Goals as goal

pub returns-clause-none : goal.returns-clause-none
returns-clause-none g c = search rules

pub returns-in_err-write_all-clause-kept : goal.returns-in_err-write_all-clause-kept
returns-in_err-write_all-clause-kept g c = search rules
