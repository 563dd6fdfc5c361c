use Rattle.history.specs.Text.{line_of}
use Rattle.history.proofs.Readers.{unread, not_all_read, is_line_of}
use Rattle.script.specs.inner.CallReading.{action_at}
use Rattle.script.specs.CallText.{action_words}
use Rattle.script.proofs.CallLemmas.{action_again}
use Rattle.script.proofs.call_text.action_of.Goals as goal

pub returns-in_err-action-clause-none : goal.returns-in_err-action-clause-none
returns-in_err-action-clause-none c =
    rw c.from_residual.ensures (λ a fits. unread action_at c.args.text.now (line_of (action_words a)) a
    (action_again a fits) (rw c.of-words.ensures at c.in_err-action.ensures.is))

pub returns-in-None-clause-found : goal.returns-in-None-clause-found
returns-in-None-clause-found c =
    let words = rw (c.of-words.ensures, c.in-None.ensures.0) at c.in_ok-action.ensures.found in
    (words.0, is_line_of c.args.text.now (action_words c.in_ok-action.action) words.1)

pub returns-in-Some-clause-none : goal.returns-in-Some-clause-none
returns-in-Some-clause-none c = λ a fits.
    not_all_read action_at c.args.text.now (line_of (action_words a)) a c.in_ok-action.action _ _
    (action_again a fits) (rw (c.of-words.ensures, c.in-Some.ensures) at c.in_ok-action.ensures.is)
