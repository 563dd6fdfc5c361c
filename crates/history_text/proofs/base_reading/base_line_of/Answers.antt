use Rattle.history.proofs.Readers.{unread, not_all_read, is_line_of}
use Rattle.history_text.specs.Prelude.{base_line, base_words, base_line_at}
use Rattle.history_text.proofs.BaseLineLemmas.{whole_base_line}
use Rattle.history_text.proofs.base_reading.base_line_of.Goals as goal

pub returns-in_err-told-clause-none : goal.returns-in_err-told-clause-none
returns-in_err-told-clause-none c =
    rw c.from_residual.ensures (λ x fits. unread base_line_at c.args.line.now (base_line x) x
    (whole_base_line x fits) (rw c.of-words.ensures at c.in_err-told.ensures.is))

pub returns-in-Some-clause-none : goal.returns-in-Some-clause-none
returns-in-Some-clause-none c = λ x fits.
    not_all_read base_line_at c.args.line.now (base_line x) x c.in_ok-told.told _ _ (whole_base_line x fits)
    (rw (c.of-words.ensures, c.in-Some.ensures) at c.in_ok-told.ensures.is)

pub returns-in-None-clause-found : goal.returns-in-None-clause-found
returns-in-None-clause-found c =
    let words = rw (c.of-words.ensures, c.in-None.ensures.0) at c.in_ok-told.ensures.found in
    (words.0, is_line_of c.args.line.now (base_words c.in_ok-told.told) words.1)
