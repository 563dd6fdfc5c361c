use Rattle.std.proofs.Common.{rules}
use Rattle.driver.specs.declared.telling.Telling.TheVariants.{Summary}
use Rattle.driver.proofs.summed.summed_text.Goals as goal

pub folded-folded-requires : goal.folded-folded-requires
folded-folded-requires c = c.requires.judged.good

pub wrong-wrong-requires : goal.wrong-wrong-requires
wrong-wrong-requires c =
    record { telling = Summary c.args.notation; history = c.requires.history; judged = c.requires.judged }

pub finish-requires : goal.finish-requires
finish-requires c = rw c.in-Some.is at c.requires.judged.sums

pub unreachable-requires : goal.unreachable-requires
unreachable-requires c = search (rules, c.requires.judged.summing)
