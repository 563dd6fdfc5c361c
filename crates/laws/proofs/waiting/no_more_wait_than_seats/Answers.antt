use Rattle.history.proofs.WhoWaits.{all_fit}
use Rattle.laws.proofs.waiting.no_more_wait_than_seats.Goals as goal

pub returns : goal.returns
returns c = all_fit
