use Rattle.std.proofs.Common.{rules}
use Rattle.driver.proofs.history_reader.HistoryReader.calls.Goals as goal

pub returns : goal.returns
returns c = search rules
