use Rattle.std.proofs.Common.{rules}
use Rattle.word_lock.proofs.token.Token.is_free.Goals as goal

pub returns : goal.returns
returns c = search rules
