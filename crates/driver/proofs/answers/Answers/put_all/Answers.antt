use Rattle.std.proofs.Common.{◌++◌, append_assoc, subst}
use Rattle.std.proofs.lemmas.Result.{on_err_weaker, on_ok_weaker}
use Rattle.driver.specs.Below.{AppendsFront}
use Rattle.driver.specs.Answers.{ended_line, form_lines}
use Rattle.driver.proofs.Gathering.{front_longer, front_more, gathered_more, if_failed, written_all, written_front}
use Rattle.driver.proofs.answers.Answers.put_all.Goals as goal

pub returns-in_err-put_lines-clause-err : goal.returns-in_err-put_lines-clause-err
returns-in_err-put_lines-clause-err g c =
    let a = c.args.self.now in
    let lines = form_lines c.args.form a in
    if_failed c.from_residual.result _
    (subst (AppendsFront _ _) (append_assoc c.args.lines.now.bytes lines (ended_line a))
    (front_longer _ _ (c.args.lines.now.bytes ++ lines) (ended_line a) c.in_err-put_lines.ensures.adds))

pub returns-in_err-put_counts-clause-err : goal.returns-in_err-put_counts-clause-err
returns-in_err-put_counts-clause-err g c =
    if_failed c.from_residual-in_err-put_counts.result _
    (front_more _ _ _ c.args.lines.now.bytes c.put_lines.new.lines.bytes _ _ c.in_ok-put_lines.ensures.adds
    (rw (c.count.ensures, c.calls.ensures) at c.in_err-put_counts.ensures.adds))

pub returns-clause-ok : goal.returns-clause-ok
returns-clause-ok g c =
    let adds =
    gathered_more _ _ _ c.args.lines.now.bytes c.put_lines.new.lines.bytes c.put_counts.new.self.bytes _
    _ c.in_ok-put_lines.ensures.adds
    (rw (c.count.ensures, c.calls.ensures) at c.in_ok-put_counts.ensures.adds) in
    on_ok_weaker c.flush.result (written_all _ _ _ c.args.lines.now.bytes c.put_counts.new.self.bytes _
    adds) c.flush.ensures.ok

pub returns-clause-err : goal.returns-clause-err
returns-clause-err g c =
    let adds =
    gathered_more _ _ _ c.args.lines.now.bytes c.put_lines.new.lines.bytes c.put_counts.new.self.bytes _
    _ c.in_ok-put_lines.ensures.adds
    (rw (c.count.ensures, c.calls.ensures) at c.in_ok-put_counts.ensures.adds) in
    on_err_weaker c.flush.result (written_front _ _ _ c.args.lines.now.bytes c.put_counts.new.self.bytes
    _ adds) c.flush.ensures.err
