use Rattle.std.proofs.Common.{rules}
use Rattle.driver.proofs.history_reader.HistoryReader.count.Goals as goal

pub returns : goal.returns
returns c = search rules
