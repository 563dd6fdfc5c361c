use Rattle.history_text.proofs.HistoryLaws.{one_reading}
use Rattle.history_text.proofs.law.one_reading.Goals as goal

pub returns : goal.returns
returns c = one_reading
