use Rattle.history.proofs.Marking.{remarked_is}
use Rattle.laws.proofs.waking.an_entry_changes_two_marks.Goals as goal

pub returns : goal.returns
returns c = remarked_is
