use Rattle.history_text.proofs.HistoryLaws.{read_fits}
use Rattle.history_text.proofs.law.what_is_read_fits.Goals as goal

pub returns : goal.returns
returns c = read_fits
