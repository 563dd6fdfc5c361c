use Rattle.std.proofs.Common.{arith}
use Rattle.std.proofs.lemmas.Int.{ints}
use Rattle.frame.proofs.snapshot.released.Goals as goal

pub returns : goal.returns
returns c = λ n is. omega (arith, ints)
