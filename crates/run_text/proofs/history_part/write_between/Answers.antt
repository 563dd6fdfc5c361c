use Rattle.std.proofs.Common.{◌++◌, append_assoc, reverse, subst, sym}
use Rattle.run_text.specs.Below.{AppendsFront, entry_lines}
use Rattle.std.proofs.lemmas.Result.{on_err_weaker}
use Rattle.driver.proofs.Gathering.{front_longer, if_failed}
use Rattle.run_text.proofs.Written.{front_behind}
use Rattle.run_text.proofs.history_part.write_between.Goals as goal

pub returns-in_err-write_entries-clause-err : goal.returns-in_err-write_entries-clause-err
returns-in_err-write_entries-clause-err g c =
    let head = c.args.head.now in
    let middle = entry_lines c.args.first (reverse c.args.history.now.entries) in
    let end = c.args.end.now in
    let all = front_behind _ _ _ head (middle ++ end) c.in_ok-write_all.ensures.ok
    (front_longer _ _ middle end c.in_err-write_entries.ensures.err) in
    if_failed c.from_residual-in_err-write_entries.result _
    (subst (AppendsFront _ _) (sym (append_assoc head middle end)) all)

pub returns-clause-err : goal.returns-clause-err
returns-clause-err g c =
    let head = c.args.head.now in
    let middle = entry_lines c.args.first (reverse c.args.history.now.entries) in
    let end = c.args.end.now in
    on_err_weaker c.write_all-2.result (λ front. subst (AppendsFront _ _) (sym (append_assoc head middle end))
    (front_behind _ _ _ head (middle ++ end) c.in_ok-write_all.ensures.ok
    (front_behind _ _ _ middle end c.in_ok-write_entries.ensures.ok front))) c.write_all-2.ensures.err

pub returns-in_err-write_all-clause-err : goal.returns-in_err-write_all-clause-err
returns-in_err-write_all-clause-err g c =
    let head = c.args.head.now in
    let middle = entry_lines c.args.first (reverse c.args.history.now.entries) in
    let end = c.args.end.now in
    let all = front_longer _ _ head (middle ++ end) c.in_err-write_all.ensures.err in
    if_failed c.from_residual.result _
    (subst (AppendsFront _ _) (sym (append_assoc head middle end)) all)
