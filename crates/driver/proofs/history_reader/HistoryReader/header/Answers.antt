use Rattle.std.proofs.Common.{rules}
use Rattle.driver.proofs.history_reader.HistoryReader.header.Goals as goal

pub returns-clause-value : goal.returns-clause-value
returns-clause-value c = search rules
