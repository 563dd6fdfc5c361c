use Rattle.std.proofs.Common.{arith, refl}
use Rattle.run_text.proofs.Judged.{parts_judged, parts_named}
use Rattle.run_text.proofs.report_text.RunText.of.Goals as goal

pub parts_of-requires-clause-judged : goal.parts_of-requires-clause-judged
parts_of-requires-clause-judged c =
    parts_judged c.requires.report.locks _ c.args.report.objects.items c.requires.report.parts
    c.requires.sound

pub parts_of-requires-clause-named : goal.parts_of-requires-clause-named
parts_of-requires-clause-named c =
    omega (arith, parts_named c.args.script.now c.args.report c.requires.report)

pub returns-clause-text : goal.returns-clause-text
returns-clause-text c =
    rw (c.in_ok-parts.ensures.text, c.in_ok-last.ensures.lines) refl
