use Rattle.std.proofs.Common.{refl, Err, ℕ, List, ap, subst}
use Rattle.driver.specs.Below.{TextFault, IsReading, steps_form, steps_so_far, StreamFault, Memory, Text}
use Rattle.streams.proofs.Faults.{err_is}
use Rattle.steps.proofs.ShortSteps.{short}
use Rattle.steps.proofs.StepsLawful.{lawful}
use Rattle.driver.proofs.ReadingAhead.{header_ahead, header_fault, header_kept, reading_fault, unread_yet, whole_left}
use Rattle.driver.proofs.step_reader.StepReader.open.Goals as goal

pub returns-in_err-window-clause-err : goal.returns-in_err-window-clause-err
returns-in_err-window-clause-err g c =
    rw (err_is c.from_residual.result Memory c.from_residual.ensures)
    (unread_yet steps_form (g.R.Source.left c.args.reader.now))

pub returns-in_err-read_line-clause-err : goal.returns-in_err-read_line-clause-err
returns-in_err-read_line-clause-err g c =
    let passed = c.from_residual-in_err-read_line in
    let failed = c.in_err-read_line.ensures in
    let text = g.R.Source.left c.args.reader.now in
    rw (err_is passed.result c.in_err-read_line.field-0.0 passed.ensures)
    (reading_fault steps_form text text (g.R.Source.left c.read_line.new.reader) c.in_err-read_line.field-0.0
    failed.kinds (λ e. failed.memory (ap (λ (f : StreamFault). Err f) e)) (whole_left text))

pub returns-in_err-header-clause-err : goal.returns-in_err-header-clause-err
returns-in_err-header-clause-err g c =
    let fault = c.in_err-header.field-0.0 in
    let passed = c.from_residual-in_err-header in
    let is = subst (λ (t : List ℕ). IsReading steps_form t (Err fault)) c.bytes.ensures.bytes
    c.in_err-header.ensures.err in
    let cut = rw c.bytes.ensures.bytes at c.in_err-header.ensures.cut in
    rw (err_is passed.result (Text fault) passed.ensures)
    (header_fault steps_form (g.R.Source.left c.args.reader.now) c.read_line.new.self.bytes
    (g.R.Source.left c.read_line.new.reader) fault lawful short is
    (λ e. c.in_ok-read_line.ensures.whole (cut (ap (λ (f : TextFault). Err f) e)))
    (rw c.in_ok-window.ensures at c.in_ok-read_line.ensures.ahead))

pub returns-clause-ok : goal.returns-clause-ok
returns-clause-ok g c =
    let text = g.R.Source.left c.args.reader.now in
    let left = g.R.Source.left c.read_line.new.reader in
    let window = c.read_line.new.self.bytes in
    let after = c.in_ok-header.after.now in
    let begun = rw c.bytes.ensures.bytes at c.in_ok-header.ensures.ok in
    let ahead = rw c.in_ok-window.ensures at c.in_ok-read_line.ensures.ahead in
    let keeps = header_kept steps_form c.in_ok-header.header window after text left short begun ahead in
    rw c.keep_last.ensures.bytes
    (header_ahead steps_form text (steps_so_far c.in_ok-header.header 0) window after left
    (record { begins = begun; count = refl; known = tt }) keeps)
