use Rattle.std.proofs.Common.{◌∷◌, arith, decimal, rules}
use Rattle.history.proofs.Readers.{unread, not_all_read, is_line_of}
use Rattle.steps.specs.StepLines.{step_line, step_words}
use Rattle.steps.specs.StepReading.{line_at}
use Rattle.steps.proofs.StepLemmas.{whole_line}
use Rattle.steps.proofs.step_line.step_of.Goals as goal

pub returns-in_err-asked-clause-none : goal.returns-in_err-asked-clause-none
returns-in_err-asked-clause-none c =
    let seats = c.args.seats in
    rw c.from_residual.ensures (λ s fits. unread (line_at seats) c.args.line.now (step_line s) s
    (whole_line seats s (omega arith) fits) (rw c.of-words.ensures at c.in_err-asked.ensures.is))

pub returns-in-Some-clause-none : goal.returns-in-Some-clause-none
returns-in-Some-clause-none c = λ s fits.
    let seats = c.args.seats in
    not_all_read (line_at seats) c.args.line.now (step_line s) s c.in_ok-asked.asked _ _
    (whole_line seats s (omega arith) fits) (rw (c.of-words.ensures, c.in-Some.ensures) at
    c.in_ok-asked.ensures.is)

pub returns-in-None-clause-found : goal.returns-in-None-clause-found
returns-in-None-clause-found c =
    let words = rw (c.of-words.ensures, c.in-None.ensures.0) at c.in_ok-asked.ensures.found in
    let s = c.in_ok-asked.asked in
    (words.0, is_line_of c.args.line.now (decimal s.0 ∷ step_words s.1) words.1)

pub returns-in-Some-clause-found : goal.returns-in-Some-clause-found
returns-in-Some-clause-found c = search rules
