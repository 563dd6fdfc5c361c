use Rattle.std.proofs.Common.{ap, refl}
use Rattle.history.specs.Text.{ended}
use Rattle.driver.specs.Answers.{AllAnswers, first_line}
use Rattle.driver.proofs.answers.Answers.write_lines.Goals as goal

pub returns-in-Ok-clause-writes : goal.returns-in-Ok-clause-writes
returns-in-Ok-clause-writes g c =
    let header = ap (λ (a : AllAnswers). ended (first_line c.args.form a.header)) c.self.view_is in
    rw (c.in_ok-lines.ensures.first, c.deref.ensures.value, c.in_ok-first.ensures.ok, header) at
    c.in-Ok.ensures.ok

pub returns-clause-writes : goal.returns-clause-writes
returns-clause-writes g c =
    let header = ap (λ (a : AllAnswers). ended (first_line c.args.form a.header)) c.self.view_is in
    rw (c.in_ok-lines.ensures.first, c.deref.ensures.value, c.in_ok-first.ensures.ok, header) at
    c.in-Err.ensures.err

pub returns-clause-failing : goal.returns-clause-failing
returns-clause-failing g c = (λ e. c.in-Err.ensures.failing.1 refl, λ t. refl)
