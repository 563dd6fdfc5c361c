use Rattle.std.proofs.Common.{rules, arith, drop-set-lt}
use Rattle.std.proofs.lemmas.Grind.{common_steps}
use Rattle.history.proofs.PieceFronts.{rest_behind}
use Rattle.history.proofs.pieces.put_bytes.Goals as goal

pub loop-i-preserved : goal.loop-i-preserved
loop-i-preserved c = record {
  put = grind (arith, common_steps);
  rest = grind (arith, common_steps, drop-set-lt, rest_behind);
}

pub returns-clause-end : goal.returns-clause-end
returns-clause-end c = search rules
