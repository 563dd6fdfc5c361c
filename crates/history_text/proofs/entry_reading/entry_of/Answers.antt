use Rattle.std.proofs.Common.{arith, rules}
use Rattle.history.proofs.Readers.{unread, not_all_read}
use Rattle.history_text.specs.Prelude.{entry_line, line_at}
use Rattle.history_text.proofs.EntryLemmas.{whole_line, is_entry_line}
use Rattle.history_text.proofs.entry_reading.entry_of.Goals as goal

pub returns-in_err-entry-clause-none : goal.returns-in_err-entry-clause-none
returns-in_err-entry-clause-none c =
    let h = c.args.header.now in
    let k = c.args.number in
    rw c.from_residual.ensures (λ e fits. unread (line_at k h.seats) c.args.line.now (entry_line k e) e
    (whole_line h k e (omega arith) c.requires fits) (rw c.of-words.ensures at c.in_err-entry.ensures.is))

pub returns-in-Some-clause-none : goal.returns-in-Some-clause-none
returns-in-Some-clause-none c = λ e fits.
    let h = c.args.header.now in
    let k = c.args.number in
    not_all_read (line_at k h.seats) c.args.line.now (entry_line k e) e c.in_ok-entry.entry _ _
    (whole_line h k e (omega arith) c.requires fits) (rw (c.of-words.ensures, c.in-Some.ensures) at
    c.in_ok-entry.ensures.is)

pub returns-in-None-clause-found : goal.returns-in-None-clause-found
returns-in-None-clause-found c =
    let words = rw (c.of-words.ensures, c.in-None.ensures.0) at c.in_ok-entry.ensures.found in
    (words.0, is_entry_line c.args.line.now c.args.number c.in_ok-entry.entry words.1)

pub returns-in-Some-clause-found : goal.returns-in-Some-clause-found
returns-in-Some-clause-found c = search rules
