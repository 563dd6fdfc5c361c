use Rattle.history.specs.Prelude.{entry_at, entry_words, line_of}
use Rattle.history.proofs.EntryAgain.{entry_again}
use Rattle.history.proofs.Readers.{unread, not_all_read, is_line_of}
use Rattle.history.proofs.entry.Entry.read_words.Goals as goal

pub returns-in_err-entry-clause-none : goal.returns-in_err-entry-clause-none
returns-in_err-entry-clause-none c =
    rw c.from_residual.ensures (λ e written seat.
    unread (entry_at c.args.seat) c.args.bytes.now (line_of (entry_words e)) e
    (entry_again c.args.seat e written seat) (rw c.of-words.ensures at c.in_err-entry.ensures.is))

pub returns-in-Some-clause-none : goal.returns-in-Some-clause-none
returns-in-Some-clause-none c e written seat =
    not_all_read (entry_at c.args.seat) c.args.bytes.now (line_of (entry_words e)) e c.in_ok-entry.entry _ _
    (entry_again c.args.seat e written seat)
    (rw (c.of-words.ensures, c.in-Some.ensures) at c.in_ok-entry.ensures.is)

pub returns-in-None-clause-found : goal.returns-in-None-clause-found
returns-in-None-clause-found c =
    let words = rw (c.of-words.ensures, c.in-None.ensures.0) at c.in_ok-entry.ensures.found in
    (words.0, words.1, is_line_of c.args.bytes.now (entry_words c.in_ok-entry.entry) words.2)
