use Rattle.history.proofs.RoomLemmas.{answer_fits}
use Rattle.laws.proofs.room.answers_keep_room.Goals as goal

pub returns : goal.returns
returns c = answer_fits
