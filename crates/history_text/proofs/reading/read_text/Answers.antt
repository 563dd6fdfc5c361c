use Rattle.history_text.proofs.TextRead.{base_failed, behind_base, entries_failed, unfolded}
use Rattle.history_text.proofs.reading.read_text.Goals as goal

pub returns-in_err-base : goal.returns-in_err-base
returns-in_err-base c =
    base_failed c.args.text.now c.in_ok-head.after.now c.in_ok-head.head c.in_ok-head.ensures.ok
    c.from_residual-in_err-base.result c.in_err-base.field-0.0 c.from_residual-in_err-base.ensures
    c.in_err-base.ensures.ahead

pub read_entries-requires-clause-none : goal.read_entries-requires-clause-none
read_entries-requires-clause-none c =
    let found = c.in_ok-base.ensures.ahead c.args.text.now c.in_ok-head.ensures.ok in
    rw c.empty_on.ensures
    (unfolded c.args.text.now found.0 c.in_ok-head.head c.in_ok-base.base c.in_ok-base.place found.2
    c.in_ok-base.ensures.none)

pub returns-in-Ok : goal.returns-in-Ok
returns-in-Ok c =
    (rw c.empty_on.ensures at c.in-Ok.ensures) c.args.text.now
    (behind_base c.args.text.now c.in_ok-head.after.now c.in_ok-head.head c.in_ok-head.ensures.ok
    c.in_ok-base.base c.in_ok-base.place c.in_ok-base.left
    (c.in_ok-base.ensures.ahead c.args.text.now c.in_ok-head.ensures.ok))

pub returns-in-Err : goal.returns-in-Err
returns-in-Err c =
    entries_failed c.args.text.now c.in_ok-head.after.now c.in_ok-head.head c.in_ok-head.ensures.ok
    c.in_ok-base.base c.in_ok-base.place c.in_ok-base.left
    (c.in_ok-base.ensures.ahead c.args.text.now c.in_ok-head.ensures.ok) c.in-Err.fault
    (rw c.empty_on.ensures at c.in-Err.ensures)
