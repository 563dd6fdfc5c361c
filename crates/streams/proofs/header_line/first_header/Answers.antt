use Rattle.std.proofs.Common.{List, ℕ, ◌++◌, ap, sym, ◌∙◌}
use Rattle.history.specs.Text.{ended}
use Rattle.streams.proofs.Growing.{broken}
use Rattle.streams.proofs.header_line.first_header.Goals as goal

pub returns-in-Some-header_behind-clause-ok : goal.returns-in-Some-header_behind-clause-ok
returns-in-Some-header_behind-clause-ok c =
    let found = c.in-Some-header_behind.ensures.found in
    let whole = c.in-Some.ensures.0 ∙ sym (broken c.in-Some.line.now c.in-Some.after.now) in
    (found.0, whole ∙ ap (λ (line : List ℕ). ended line ++ c.in-Some.after.now) found.1)
