use Rattle.std.proofs.Common.{Err, List, [], ◌∷◌, length, ap, arith, length-append}
use Rattle.driver.specs.Below.{BaseLine, TextFault, StreamFault, Text}
use Rattle.streams.proofs.Faults.{err_is}
use Rattle.driver.proofs.BaseAhead.{line_failed, line_taken, line_unread, short_kept}
use Rattle.driver.proofs.base_reader.take_line.Goals as goal

pub returns-in_err-read_line-clause-taken : goal.returns-in_err-read_line-clause-taken
returns-in_err-read_line-clause-taken g c =
    let passed = c.from_residual in
    let failed = c.in_err-read_line.ensures in
    rw (err_is passed.result c.in_err-read_line.field-0.0 passed.ensures)
    (line_unread c.args.base.now c.args.base.now c.args.window.now.bytes c.args.window.now.bytes
    (g.R.Source.left c.args.reader.now) (g.R.Source.left c.read_line.new.reader)
    c.in_err-read_line.field-0.0 failed.kinds
    (λ e. failed.memory (ap (λ (f : StreamFault). Err f) e)))

pub returns-in_err-left-clause-taken : goal.returns-in_err-left-clause-taken
returns-in_err-left-clause-taken g c =
    let passed = c.from_residual-in_err-left in
    let is = rw c.bytes.ensures.bytes at c.in_err-left.ensures.line in
    let cut = rw c.bytes.ensures.bytes at c.in_err-left.ensures.cut in
    let fault = c.in_err-left.field-0.0 in
    rw (err_is passed.result (Text fault) passed.ensures)
    (line_failed c.args.base.now c.args.window.now.bytes c.read_line.new.self.bytes
    (g.R.Source.left c.args.reader.now) (g.R.Source.left c.read_line.new.reader)
    c.in_ok-read_line.ensures.ahead c.args.base.now c.read_line.new.self.bytes fault is.1
    (λ e. c.in_ok-read_line.ensures.whole (cut (ap (λ (f : TextFault). Err f) e))))

pub returns-in_default-clause-taken : goal.returns-in_default-clause-taken
returns-in_default-clause-taken g c =
    let found = rw (c.in_default.is, c.bytes.ensures.bytes) at c.in_ok-left.ensures.line in
    let line = rw c.bytes.ensures.bytes at c.in_ok-left.ensures.short in (
      found.0,
      found.1.0,
      found.1.1,
      line,
      short_kept c.args.window.now.bytes c.read_line.new.self.bytes (g.R.Source.left c.args.reader.now)
          (g.R.Source.left c.read_line.new.reader) c.in_ok-read_line.ensures.ahead line,
    )

pub returns-clause-taken : goal.returns-clause-taken
returns-clause-taken g c =
    let taken = rw (c.in-Some.is, c.bytes.ensures.bytes) at c.in_ok-left.ensures.line in
    let line = rw c.bytes.ensures.bytes at c.in_ok-left.ensures.short in (
      omega (
        arith,
        ap (λ (l : List BaseLine). length l) taken.1,
        length-append c.args.base.now.lines (taken.0 ∷ []),
      ),
      rw c.keep_last.ensures.bytes
          (line_taken c.args.base.now c.args.window.now.bytes c.read_line.new.self.bytes
          (g.R.Source.left c.args.reader.now) (g.R.Source.left c.read_line.new.reader)
          c.in_ok-read_line.ensures.ahead c.take_next.new.self c.in-Some.left taken line),
    )
