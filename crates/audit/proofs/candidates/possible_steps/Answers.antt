use Rattle.std.proofs.Common.{rules}
use Rattle.audit.proofs.candidates.possible_steps.Goals as goal

pub returns-in-Granted : goal.returns-in-Granted
returns-in-Granted c = search rules
