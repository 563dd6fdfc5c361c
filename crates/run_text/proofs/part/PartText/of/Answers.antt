use Rattle.std.proofs.Common.{arith}
use Rattle.run_text.proofs.Texts.{good_base, lines_spelt, part_is}
use Rattle.run_text.proofs.part.PartText.of.Goals as goal

pub invariant_of-result : goal.invariant_of-result
invariant_of-result c = (
  lines_spelt c.args.part c.requires,
  omega (arith, c.in_ok-head.ensures.entries, (good_base c.args.part c.requires).entries),
)

pub returns-clause-text : goal.returns-clause-text
returns-clause-text c =
    rw (c.in_ok-head.ensures.lines, c.in_ok-head.ensures.entries, c.in_ok-foot.ensures.ok)
    (part_is c.args.name.now c.args.part c.requires)
