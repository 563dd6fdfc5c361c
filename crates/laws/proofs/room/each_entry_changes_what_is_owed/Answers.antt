use Rattle.history.proofs.Owing.{owed_step}
use Rattle.laws.proofs.room.each_entry_changes_what_is_owed.Goals as goal

pub returns : goal.returns
returns c = owed_step
