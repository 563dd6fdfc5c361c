use Rattle.std.proofs.Common.{◌≤◌, Err, ap, arith, length, refl}
use Rattle.driver.specs.Below.{end_line, TextFault, StreamFault, Text, room, steps_form, steps_so_far}
use Rattle.streams.proofs.Faults.{err_is}
use Rattle.steps.proofs.ShortSteps.{ended_short, end_short, short}
use Rattle.steps.proofs.StepsLawful.{lawful}
use Rattle.driver.specs.TextReader.{reader_at}
use Rattle.driver.proofs.ReadingAhead.{end_kept, ended_here, fault_ahead, item_ahead, item_kept, kept, line_within, next_kept, not_counted, read_failed, stands_after, stands_failed}
use Rattle.driver.proofs.StepsAhead.{next_act, next_short}
use Rattle.driver.proofs.step_reader.StepReader.next_after_reading.Goals as goal

pub returns-in_err-read_line-clause-next : goal.returns-in_err-read_line-clause-next
returns-in_err-read_line-clause-next g c =
    let held = c.self.inside in
    let passed = c.from_residual in
    let failed = c.in_err-read_line.ensures in
    let so_far = steps_so_far held.header held.count in
    let left = g.R.Source.left c.args.reader.now in
    rw (err_is passed.result c.in_err-read_line.field-0.0 passed.ensures, ← c.self.view_is)
    (read_failed steps_form so_far held.window.bytes left (g.R.Source.left c.read_line.new.reader)
    (reader_at so_far held.window.bytes left)
    c.in_err-read_line.field-0.0 failed.kinds (λ e. failed.memory (ap (λ (f : StreamFault). Err f) e)))

pub returns-in_err-read_line-clause-stands : goal.returns-in_err-read_line-clause-stands
returns-in_err-read_line-clause-stands g c =
    rw (← c.self.view_is) (stands_failed _ _ _ _ c.from_residual.result c.from_residual.ensures.0
    c.in_err-read_line.ensures.ahead)

pub returns-in_err-act-clause-next : goal.returns-in_err-act-clause-next
returns-in_err-act-clause-next g c =
    let held = c.self.inside in
    let is = rw c.bytes.ensures.bytes at c.in_err-act.ensures.line in
    let cut = rw c.bytes.ensures.bytes at c.in_err-act.ensures.cut in
    let passed = c.from_residual-in_err-act in
    let fault = c.in_err-act.field-0.0 in
    rw (err_is passed.result (Text fault) passed.ensures, ← c.self.view_is) (λ text steps were.
    fault_ahead steps_form text (steps_so_far held.header held.count) held.window.bytes
    c.read_line.new.self.bytes (g.R.Source.left c.args.reader.now) (g.R.Source.left c.read_line.new.reader)
    steps fault lawful short c.in_ok-read_line.ensures.ahead is
    (λ e. c.in_ok-read_line.ensures.whole (cut (ap (λ (f : TextFault). Err f) e))) were)

pub returns-in_err-act-clause-stands : goal.returns-in_err-act-clause-stands
returns-in_err-act-clause-stands g c =
    let passed = c.from_residual-in_err-act in
    rw (← c.self.view_is) (stands_failed _ _ _ _ passed.result passed.ensures.0
    c.in_ok-read_line.ensures.ahead)

pub end_of-requires-clause-end : goal.end_of-requires-clause-end
end_of-requires-clause-end g c =
    let held = c.self.inside in
    let last = (rw (c.in_default.is, c.bytes.ensures.bytes) at c.in_ok-act.ensures.last) refl in
    omega (arith, ended_short _ held.count (omega (arith, c.self.invariant.0)) last)

pub returns-in_default-clause-next : goal.returns-in_default-clause-next
returns-in_default-clause-next g c =
    let held = c.self.inside in
    let so_far = steps_so_far held.header held.count in
    let window = c.read_line.new.self.bytes in
    let is = rw (c.in_default.is, c.bytes.ensures.bytes) at c.in_ok-act.ensures.line in
    let last = (rw (c.in_default.is, c.bytes.ensures.bytes) at c.in_ok-act.ensures.last) refl in
    let keeps =
    end_kept held.window.bytes window (end_line held.count) (g.R.Source.left c.args.reader.now)
    (g.R.Source.left c.read_line.new.reader) c.in_ok-read_line.ensures.ahead last
    (omega (arith, end_short held.count (omega (arith, c.self.invariant.0)))) in
    rw (← c.self.view_is) (next_kept steps_form so_far _ _ c.end_of.result _
    (g.R.Source.left c.end_of.new.reader) keeps
    (ended_here steps_form so_far window c.end_of.new.window.bytes (g.R.Source.left c.read_line.new.reader)
    (g.R.Source.left c.end_of.new.reader) c.end_of.result _ is c.end_of.ensures.after
    c.end_of.ensures.stays))

pub returns-in_default-clause-stands : goal.returns-in_default-clause-stands
returns-in_default-clause-stands g c =
    let held = c.self.inside in
    let window = c.read_line.new.self.bytes in
    let last = (rw (c.in_default.is, c.bytes.ensures.bytes) at c.in_ok-act.ensures.last) refl in
    let keeps =
    end_kept held.window.bytes window (end_line held.count) (g.R.Source.left c.args.reader.now)
    (g.R.Source.left c.read_line.new.reader) c.in_ok-read_line.ensures.ahead last
    (omega (arith, end_short held.count (omega (arith, c.self.invariant.0)))) in
    rw (← c.self.view_is) (stands_after held.window.bytes window c.end_of.new.window.bytes
    (g.R.Source.left c.args.reader.now) (g.R.Source.left c.read_line.new.reader)
    (g.R.Source.left c.end_of.new.reader) c.end_of.result keeps c.end_of.ensures.stays)

pub pass-requires : goal.pass-requires
pass-requires g c =
    let is = rw (c.in-Some.is, c.bytes.ensures.bytes) at c.in_ok-act.ensures.line in
    line_within steps_form (steps_so_far c.self.inside.header c.self.inside.count)
    c.read_line.new.self.bytes c.in-Some.act c.in-Some.left is

pub returns-in_err-pass-clause-next : goal.returns-in_err-pass-clause-next
returns-in_err-pass-clause-next g c =
    let held = c.self.inside in
    let so_far = steps_so_far held.header held.count in
    let window = c.read_line.new.self.bytes in
    let left = g.R.Source.left c.args.reader.now in
    let after = g.R.Source.left c.read_line.new.reader in
    let is = rw (c.in-Some.is, c.bytes.ensures.bytes) at c.in_ok-act.ensures.line in
    let passed = c.from_residual-in_err-pass in
    let few : length window ≤ room =
    omega (arith, c.in_ok-read_line.ensures.few, c.in_ok-read_line.ensures.places, c.self.invariant.2) in
    let full = err_is passed.result c.in_err-pass.field-0.0 passed.ensures in
    rw (full, c.in_err-pass.ensures.err, ← c.self.view_is)
    (not_counted steps_form so_far held.window.bytes window left after
    (reader_at so_far held.window.bytes left) few
    (item_kept steps_form so_far held.window.bytes window left after
    c.in-Some.act c.in-Some.left (next_short held.header held.count window c.in-Some.act c.in-Some.left
    c.self.invariant.1 is) c.in_ok-read_line.ensures.ahead is))

pub returns-in_err-pass-clause-stands : goal.returns-in_err-pass-clause-stands
returns-in_err-pass-clause-stands g c =
    let passed = c.from_residual-in_err-pass in
    rw (c.in_err-pass.ensures.kept, ← c.self.view_is) (stands_failed _ _ _ _ passed.result passed.ensures.0
    c.in_ok-read_line.ensures.ahead)

pub returns-clause-next : goal.returns-clause-next
returns-clause-next g c = rw (← c.self.view_is) (λ text steps were.
    let held = c.self.inside in
    let so_far = steps_so_far held.header held.count in
    let window = c.read_line.new.self.bytes in
    let is = rw (c.in-Some.is, c.bytes.ensures.bytes) at c.in_ok-act.ensures.line in
    let keeps =
    item_kept steps_form so_far held.window.bytes window (g.R.Source.left c.args.reader.now)
    (g.R.Source.left c.read_line.new.reader)
    c.in-Some.act c.in-Some.left (next_short held.header held.count window c.in-Some.act c.in-Some.left
    c.self.invariant.1 is) c.in_ok-read_line.ensures.ahead is in
    let here = kept steps_form text so_far _ _ steps keeps were in
    rw c.in_ok-pass.ensures.ok
    (item_ahead steps_form text so_far so_far.known window (g.R.Source.left c.read_line.new.reader)
    steps c.in-Some.act c.in-Some.left is (λ known. tt) here))

pub returns-clause-seated : goal.returns-clause-seated
returns-clause-seated g c =
    let held = c.self.inside in
    let is = rw (c.in-Some.is, c.bytes.ensures.bytes) at c.in_ok-act.ensures.line in
    rw (← c.self.view_is) (next_act held.header held.count c.read_line.new.self.bytes c.in-Some.act
    c.in-Some.left is)
