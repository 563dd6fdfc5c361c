use Rattle.std.proofs.Common.{rules, ◌<◌, ◌≤◌, ◌++◌, ap, length, take_all, ◌∙◌}
use Rattle.script.specs.Script.{named}
use Rattle.run_text.specs.Unrecorded.{answer_lines}
use Rattle.run_text.proofs.AnswerLines.{answers_more}
use Rattle.run_text.proofs.answer_lines.put_answers.Goals as goal

pub loop-answer-preserved : goal.loop-answer-preserved
loop-answer-preserved c =
    let i = c.loop-answer.answer-index in
    let within : i < length c.args.answers.now = search rules in
    answers_more (named c.args.objects.now.entries) c.args.answers.now i _ c.args.out.now.items
    c.loop-answer.out.items c.put_answer.new.out.items within c.loop-answer.invariant
    c.in_ok-put_answer.ensures

pub returns : goal.returns
returns c =
    let i = c.loop-answer.answer-index in
    let all : length c.args.answers.now ≤ i = search rules in
    c.loop-answer.invariant
    ∙ ap (λ l. c.args.out.now.items ++ answer_lines (named c.args.objects.now.entries) l)
    (take_all i c.args.answers.now all)
