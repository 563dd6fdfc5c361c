use Rattle.std.proofs.Common.{◌<◌, ◌^◌, arith}
use Rattle.driver.specs.Prelude.{before_wrong}
use Rattle.driver.proofs.Shown.{wrong_early}
use Rattle.driver.proofs.judged.Judged.wrong.Goals as goal

pub folded-requires : goal.folded-requires
folded-requires c = c.requires.judged.good

pub overflow_add-result : goal.overflow_add-result
overflow_add-result c =
    let k = c.requires in
    let early : before_wrong c.verdict.result < 2 ^ 32 =
    wrong_early k.telling k.history c.args.self.now k.judged c.verdict.result c.verdict.ensures in
    let number = rw c.in-NotLegal.is at early in
    omega (arith, number, c.folded.ensures.few)
