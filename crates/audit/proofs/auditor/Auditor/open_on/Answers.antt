use Rattle.history.specs.Base.{based}
use Rattle.audit.proofs.auditor.Auditor.open_on.Goals as goal

pub returns-in-Ok-clause-judged : goal.returns-in-Ok-clause-judged
returns-in-Ok-clause-judged c = c.new.ensures (based c.args.base.now) c.in-Ok.ensures.stand
