use Rattle.std.proofs.Common.{rules}
use Rattle.history.proofs.words.Words.of.Goals as goal

pub returns : goal.returns
returns c = search rules
