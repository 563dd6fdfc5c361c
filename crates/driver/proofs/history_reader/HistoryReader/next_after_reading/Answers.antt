use Rattle.std.proofs.Common.{◌+◌, Err, ap, arith, refl}
use Rattle.driver.specs.Below.{counts_line, TextFault, StreamFault, Text}
use Rattle.history_text.proofs.ShortEntries.{counts_short, ended_short}
use Rattle.streams.proofs.Faults.{err_is}
use Rattle.driver.specs.contracts.history_reader.HistoryReader.{the_view}
use Rattle.driver.proofs.EntriesAhead.{entries_ended, entries_kept, entries_read_failed, entry_failed, entry_here, entry_keeps, few_calls, few_entries}
use Rattle.driver.proofs.ReadingAhead.{end_kept, stands_after, stands_failed}
use Rattle.driver.proofs.history_reader.HistoryReader.next_after_reading.Goals as goal

pub returns-in_err-read_line-clause-next : goal.returns-in_err-read_line-clause-next
returns-in_err-read_line-clause-next g c =
    let passed = c.from_residual in
    let failed = c.in_err-read_line.ensures in
    let held = the_view c.self.inside in
    rw (err_is passed.result c.in_err-read_line.field-0.0 passed.ensures, ← c.self.view_is)
    (entries_read_failed held held (g.R.Source.left c.args.reader.now)
    (g.R.Source.left c.read_line.new.reader) c.in_err-read_line.field-0.0 failed.kinds
    (λ e. failed.memory (ap (λ (f : StreamFault). Err f) e)))

pub returns-in_err-read_line-clause-stands : goal.returns-in_err-read_line-clause-stands
returns-in_err-read_line-clause-stands g c =
    rw (← c.self.view_is) (stands_failed _ _ _ _ c.from_residual.result c.from_residual.ensures.0
    c.in_err-read_line.ensures.ahead)

pub returns-in_err-entry-clause-next : goal.returns-in_err-entry-clause-next
returns-in_err-entry-clause-next g c =
    let is = rw c.bytes.ensures.bytes at c.in_err-entry.ensures.line in
    let cut = rw c.bytes.ensures.bytes at c.in_err-entry.ensures.cut in
    let passed = c.from_residual-in_err-entry in
    let fault = c.in_err-entry.field-0.0 in
    let held = the_view c.self.inside in
    rw (err_is passed.result (Text fault) passed.ensures, ← c.self.view_is)
    (entry_failed held held c.read_line.new.self.bytes (g.R.Source.left c.args.reader.now)
    (g.R.Source.left c.read_line.new.reader) fault c.self.invariant.5.0 c.in_ok-read_line.ensures.ahead is
    (λ e. c.in_ok-read_line.ensures.whole (cut (ap (λ (f : TextFault). Err f) e))))

pub returns-in_err-entry-clause-stands : goal.returns-in_err-entry-clause-stands
returns-in_err-entry-clause-stands g c =
    let passed = c.from_residual-in_err-entry in
    rw (← c.self.view_is) (stands_failed _ _ _ _ passed.result passed.ensures.0
    c.in_ok-read_line.ensures.ahead)

pub end_of-requires-clause-end : goal.end_of-requires-clause-end
end_of-requires-clause-end g c =
    let held = c.self.inside in
    let i = c.self.invariant in
    let last = rw (c.in_default.is, c.bytes.ensures.bytes) at c.in_ok-entry.ensures.line in
    omega (
      arith,
      ended_short _ (held.place.folded + held.place.count) held.place.calls
          (few_entries held.header held.place i.4 i.0 i.3)
          (few_calls held.header held.place i.4 i.0 i.1) last,
    )

pub returns-in_default-clause-next : goal.returns-in_default-clause-next
returns-in_default-clause-next g c =
    let held = c.self.inside in
    let i = c.self.invariant in
    let n = held.place.folded + held.place.count in
    let window = c.read_line.new.self.bytes in
    let is = rw (c.in_default.is, c.bytes.ensures.bytes) at c.in_ok-entry.ensures.line in
    let last = rw (c.in_default.is, c.bytes.ensures.bytes) at c.in_ok-entry.ensures.line in
    let keeps =
    end_kept held.window.bytes window (counts_line n held.place.calls) (g.R.Source.left c.args.reader.now)
    (g.R.Source.left c.read_line.new.reader) c.in_ok-read_line.ensures.ahead last
    (omega (
      arith,
      counts_short n held.place.calls (few_entries held.header held.place i.4 i.0 i.3)
          (few_calls held.header held.place i.4 i.0 i.1),
    )) in
    rw (← c.self.view_is) (entries_ended (the_view c.self.inside) _ window c.end_of.new.window.bytes
    (g.R.Source.left c.args.reader.now) (g.R.Source.left c.read_line.new.reader)
    (g.R.Source.left c.end_of.new.reader) c.end_of.result i.5.0 keeps is c.end_of.ensures.after
    c.end_of.ensures.stays)

pub returns-in_default-clause-stands : goal.returns-in_default-clause-stands
returns-in_default-clause-stands g c =
    let held = c.self.inside in
    let i = c.self.invariant in
    let n = held.place.folded + held.place.count in
    let window = c.read_line.new.self.bytes in
    let last = rw (c.in_default.is, c.bytes.ensures.bytes) at c.in_ok-entry.ensures.line in
    let keeps =
    end_kept held.window.bytes window (counts_line n held.place.calls) (g.R.Source.left c.args.reader.now)
    (g.R.Source.left c.read_line.new.reader) c.in_ok-read_line.ensures.ahead last
    (omega (
      arith,
      counts_short n held.place.calls (few_entries held.header held.place i.4 i.0 i.3)
          (few_calls held.header held.place i.4 i.0 i.1),
    )) in
    rw (← c.self.view_is) (stands_after held.window.bytes window c.end_of.new.window.bytes
    (g.R.Source.left c.args.reader.now) (g.R.Source.left c.read_line.new.reader)
    (g.R.Source.left c.end_of.new.reader) c.end_of.result keeps c.end_of.ensures.stays)

pub pass-requires : goal.pass-requires
pass-requires g c =
    let next = rw (c.in-Some.is, c.bytes.ensures.bytes) at c.in_ok-entry.ensures.shorter in
    (omega (arith, next), rw c.in-Some.is at c.in_ok-entry.ensures.within)

pub returns-clause-next : goal.returns-clause-next
returns-clause-next g c = rw (← c.self.view_is) (λ text es were.
    let held = c.self.inside in
    let i = c.self.invariant in
    let window = c.read_line.new.self.bytes in
    let left = g.R.Source.left c.read_line.new.reader in
    let is = rw (c.in-Some.is, c.bytes.ensures.bytes) at c.in_ok-entry.ensures.line in
    let within = rw c.in-Some.is at c.in_ok-entry.ensures.within in
    let keeps =
    entry_keeps held.header held.place held.window.bytes window (g.R.Source.left c.args.reader.now) left
    c.in-Some.entry c.in-Some.left i.4 (few_entries held.header held.place i.4 i.0 i.3)
    c.in_ok-read_line.ensures.ahead is in
    rw c.pass.ensures
    (entry_here _ _ es held.place text window left c.in-Some.entry c.in-Some.left (rw i.5.0 within)
    (rw i.5.0 is)
    (entries_kept _ _ es held.place text held.window.bytes window (g.R.Source.left c.args.reader.now)
    left keeps
    were)))

pub returns-clause-counted : goal.returns-clause-counted
returns-clause-counted g c =
    let within = rw c.in-Some.is at c.in_ok-entry.ensures.within in
    rw (← c.self.view_is, c.pass.ensures)
    (refl, omega (arith, within), rw c.in-Some.is at c.in_ok-entry.ensures.seated)
