use Rattle.std.proofs.Common.{arith}
use Rattle.history_text.proofs.HeadWritten.{sum_calls, sum_few}
use Rattle.history_text.proofs.Pieces.{pieces}
use Rattle.history_text.proofs.law.texts_are_in_pieces.Goals as goal

pub returns : goal.returns
returns c b h range good =
    let few = sum_few b good in pieces b h (sum_calls b good) (λ z. omega (arith, few, z))
