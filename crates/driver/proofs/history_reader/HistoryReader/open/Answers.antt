use Rattle.std.proofs.Common.{◌∙◌, Err, ℕ, List, ap, arith, refl, subst}
use Rattle.driver.specs.Below.{or_opening, TextFault, IsReading, history_form, StreamFault, Memory, Text, Seen}
use Rattle.streams.proofs.Faults.{err_is}
use Rattle.history_text.proofs.HistoryLawful.{lawful}
use Rattle.history_text.proofs.ShortEntries.{short}
use Rattle.driver.proofs.BaseAhead.{beginning_read, few_after, head_ahead}
use Rattle.driver.proofs.ReadingAhead.{header_fault, reading_fault, unread_yet, whole_left}
use Rattle.driver.proofs.history_reader.HistoryReader.open.Goals as goal

pub returns-in_err-window-clause-err : goal.returns-in_err-window-clause-err
returns-in_err-window-clause-err g c =
    rw (err_is c.from_residual.result Memory c.from_residual.ensures)
    (unread_yet history_form (g.R.Source.left c.args.reader.now))

pub returns-in_err-read_line-clause-err : goal.returns-in_err-read_line-clause-err
returns-in_err-read_line-clause-err g c =
    let passed = c.from_residual-in_err-read_line in
    let failed = c.in_err-read_line.ensures in
    let text = g.R.Source.left c.args.reader.now in
    rw (err_is passed.result c.in_err-read_line.field-0.0 passed.ensures)
    (reading_fault history_form text text (g.R.Source.left c.read_line.new.reader)
    c.in_err-read_line.field-0.0 failed.kinds
    (λ e. failed.memory (ap (λ (f : StreamFault). Err f) e)) (whole_left text))

pub returns-in_err-head-clause-err : goal.returns-in_err-head-clause-err
returns-in_err-head-clause-err g c =
    let fault = c.in_err-head.field-0.0 in
    let passed = c.from_residual-in_err-head in
    let is = subst (λ (t : List ℕ). IsReading history_form t (Err fault)) c.bytes.ensures.bytes
    c.in_err-head.ensures.err in
    let cut = rw c.bytes.ensures.bytes at c.in_err-head.ensures.cut in
    rw (err_is passed.result (Text fault) passed.ensures)
    (header_fault history_form (g.R.Source.left c.args.reader.now) c.read_line.new.self.bytes
    (g.R.Source.left c.read_line.new.reader) fault lawful short is
    (λ e. c.in_ok-read_line.ensures.whole (cut (ap (λ (f : TextFault). Err f) e)))
    (rw c.in_ok-window.ensures at c.in_ok-read_line.ensures.ahead))

pub returns-in_err-base-clause-err : goal.returns-in_err-base-clause-err
returns-in_err-base-clause-err g c =
    let text = g.R.Source.left c.args.reader.now in
    let left = g.R.Source.left c.read_line.new.reader in
    let passed = c.from_residual-in_err-base in
    let h = c.in_ok-head.head in
    let begun = rw c.bytes.ensures.bytes at c.in_ok-head.ensures.ok in
    let ahead = rw c.in_ok-window.ensures at c.in_ok-read_line.ensures.ahead in
    rw (err_is passed.result c.in_err-base.field-0.0 passed.ensures)
    (c.in_err-base.ensures.read text (rw c.keep_last.ensures.bytes
    (head_ahead text left h c.read_line.new.self.bytes c.in_ok-head.after.now begun ahead)))

pub invariant_of-result : goal.invariant_of-result
invariant_of-result g c =
    let h = c.in_ok-head.head.header in
    let of = c.in_ok-base.ensures.base in
    let at = c.in_ok-base.ensures.place in
    let few = few_after h (or_opening h c.in_ok-base.base) c.in_ok-base.place of at in (
      omega (arith, at.count),
      omega (arith, few.0),
      at.lines,
      few.1,
      c.in_ok-head.ensures.range,
      of,
      c.in_ok-base.ensures.places ∙ c.keep_last.ensures.places ∙ c.in_ok-read_line.ensures.places
          ∙ ap (λ (w : Seen). w.places) c.in_ok-window.ensures,
      c.in_ok-base.ensures.held,
    )

pub returns-clause-ok : goal.returns-clause-ok
returns-clause-ok g c =
    let text = g.R.Source.left c.args.reader.now in
    let left = g.R.Source.left c.read_line.new.reader in
    let h = c.in_ok-head.head in
    let begun = rw c.bytes.ensures.bytes at c.in_ok-head.ensures.ok in
    let ahead = rw c.in_ok-window.ensures at c.in_ok-read_line.ensures.ahead in
    beginning_read text h h.header c.in_ok-base.base c.in_ok-base.place c.base_of.new.window.bytes
    (g.R.Source.left c.base_of.new.reader) refl
    (c.in_ok-base.ensures.read text (rw c.keep_last.ensures.bytes
    (head_ahead text left h c.read_line.new.self.bytes c.in_ok-head.after.now begun ahead)))
