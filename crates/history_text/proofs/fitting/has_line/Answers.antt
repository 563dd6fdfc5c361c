use Rattle.std.proofs.Common.{rules}
use Rattle.history_text.proofs.fitting.has_line.Goals as goal

pub returns-then-entry-header : goal.returns-then-entry-header
returns-then-entry-header c = search rules
