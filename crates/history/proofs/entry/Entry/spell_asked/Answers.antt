use Rattle.std.proofs.Common.{rules}
use Rattle.history.proofs.entry.Entry.spell_asked.Goals as goal

pub returns-in-Granted-clause-words : goal.returns-in-Granted-clause-words
returns-in-Granted-clause-words c = search rules
