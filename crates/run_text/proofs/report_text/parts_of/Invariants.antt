use Rattle.std.proofs.Common.{◌≡◌, ◌≤◌, ◌++◌, length}
use Rattle.std.specs.List.{concat, All}
use Rattle.script.specs.Script.{named}
use Rattle.run_text.specs.RunText.{parts_text}
use Rattle.run_text.specs.inner.{IsJudged}
use Rattle.run_text.proofs.report_text.parts_of.Given as goal

abbrev pub invariant-loop-object : goal.invariant-loop-object
invariant-loop-object l =
    let rest = l.object-iterator.rest.items in
    All IsJudged rest × (length rest ≤ length (named l.names))
    × (concat l.parts.items ++ parts_text (named l.names) rest ≡
    parts_text l.fn.script.objects l.fn.objects.items)
