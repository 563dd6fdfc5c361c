use Rattle.history.specs.Start.{opening}
use Rattle.audit.proofs.auditor.Auditor.open.Goals as goal

pub returns-in-Ok-clause-judged : goal.returns-in-Ok-clause-judged
returns-in-Ok-clause-judged c = c.new.ensures (opening c.args.header) c.in-Ok.ensures.stand
