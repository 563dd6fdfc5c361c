use Rattle.std.proofs.Common.{rules}
use Rattle.history.proofs.entry.Entry.is_spelt.Goals as goal

pub returns-then-at-eq0-2 : goal.returns-then-at-eq0-2
returns-then-at-eq0-2 c = search rules
