use Rattle.history.proofs.RoomLemmas.{never_lacking}
use Rattle.laws.proofs.room.room_is_never_lacking.Goals as goal

pub returns : goal.returns
returns c = never_lacking
