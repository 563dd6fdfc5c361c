use Rattle.std.proofs.Common.{[]}
use Rattle.history.specs.Base.{based}
use Rattle.explaining.proofs.explanation.standing_of.Goals as goal

pub returns-clause-told : goal.returns-clause-told
returns-clause-told c = c.ready.ensures.ready (based c.args.base.now) [] c.in_ok-ledger.ensures.stand
