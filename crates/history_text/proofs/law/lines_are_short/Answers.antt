use Rattle.history_text.proofs.ShortEntries.{short}
use Rattle.history_text.proofs.law.lines_are_short.Goals as goal

pub returns : goal.returns
returns c = short
