use Rattle.streams.proofs.Cuts as cuts
use Rattle.history_text.specs.Prelude.{head_of, lines_on, history_form}
use Rattle.history_text.proofs.HistoryLawful.{lawful}
use Rattle.history_text.proofs.law.cut_short.Goals as goal

pub returns : goal.returns
returns c text b entries is = cuts.cut_short history_form lawful text (head_of b) (lines_on b entries) is.is
