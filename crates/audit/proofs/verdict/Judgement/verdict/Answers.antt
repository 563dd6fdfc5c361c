use Rattle.std.proofs.Common.{rules}
use Rattle.audit.proofs.verdict.Judgement.verdict.Goals as goal

pub returns-in-NotLegal : goal.returns-in-NotLegal
returns-in-NotLegal c = search rules
