use Rattle.history.proofs.OneWait.{one_wait}
use Rattle.laws.proofs.waiting.a_seat_waits_once.Goals as goal

pub returns : goal.returns
returns c = one_wait
