use Rattle.drawing.proofs.BarsExact.{bars_exact}
use Rattle.drawing.proofs.laws.bars_are_the_longest_stretches.Goals as goal

pub returns : goal.returns
returns c = λ s from h b. bars_exact s from h b
