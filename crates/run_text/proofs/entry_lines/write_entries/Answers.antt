use Rattle.std.proofs.lemmas.Result.{on_err_weaker, on_ok_weaker}
use Rattle.driver.proofs.Gathering.{if_failed, written_all, written_front}
use Rattle.run_text.proofs.entry_lines.write_entries.Goals as goal

pub returns-in_err-put_entries-clause-err : goal.returns-in_err-put_entries-clause-err
returns-in_err-put_entries-clause-err g c =
    if_failed c.from_residual.result _ (rw c.requires.none at c.in_err-put_entries.ensures.adds)

pub returns-clause-ok : goal.returns-clause-ok
returns-clause-ok g c =
    on_ok_weaker c.flush.result (written_all _ _ _ _ c.put_entries.new.lines.bytes _
    (rw c.requires.none at c.in_ok-put_entries.ensures.adds)) c.flush.ensures.ok

pub returns-clause-err : goal.returns-clause-err
returns-clause-err g c =
    on_err_weaker c.flush.result (written_front _ _ _ _ c.put_entries.new.lines.bytes _
    (rw c.requires.none at c.in_ok-put_entries.ensures.adds)) c.flush.ensures.err
