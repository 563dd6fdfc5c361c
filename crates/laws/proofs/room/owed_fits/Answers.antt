use Rattle.history.proofs.RoomLemmas.{owed_fits}
use Rattle.laws.proofs.room.owed_fits.Goals as goal

pub returns : goal.returns
returns c = owed_fits
