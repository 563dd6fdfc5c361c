use Rattle.history_text.proofs.NextLines.{both_lack}
use Rattle.history_text.proofs.next_entry.based_head.Goals as goal

pub returns-in-Err-clause-err : goal.returns-in-Err-clause-err
returns-in-Err-clause-err c = both_lack c.args.text.now c.requires.0 _ c.requires.1 c.in-Err.ensures.err
