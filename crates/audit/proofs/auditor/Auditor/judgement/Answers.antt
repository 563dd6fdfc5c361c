use Rattle.std.proofs.Common.{rules}
use Rattle.audit.proofs.auditor.Auditor.judgement.Goals as goal

pub add_up-requires : goal.add_up-requires
add_up-requires c = search (rules, c.requires)

pub returns-in-Some : goal.returns-in-Some
returns-in-Some c = search rules
