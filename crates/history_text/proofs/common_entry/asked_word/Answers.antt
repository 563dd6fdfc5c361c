use Rattle.std.proofs.Common.{rules}
use Rattle.history_text.proofs.common_entry.asked_word.Goals as goal

pub returns-in-Some : goal.returns-in-Some
returns-in-Some c = search rules
