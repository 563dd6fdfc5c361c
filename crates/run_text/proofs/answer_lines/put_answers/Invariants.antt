use Rattle.std.proofs.Common.{◌≡◌, ◌++◌, take}
use Rattle.script.specs.Script.{named}
use Rattle.run_text.specs.Unrecorded.{answer_lines}
use Rattle.run_text.proofs.answer_lines.put_answers.Given as goal

abbrev pub invariant-loop-answer : goal.invariant-loop-answer
invariant-loop-answer l =
    l.out.items ≡ l.fn.out.items ++ answer_lines (named l.objects.entries) (take l.answer-index l.answers)
