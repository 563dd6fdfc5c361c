use Rattle.std.proofs.Common.{List, ℕ, ◌++◌, ap, sym, ◌∙◌}
use Rattle.history.specs.Text.{ended}
use Rattle.streams.proofs.Growing.{broken}
use Rattle.steps.proofs.next_line.header_of.Goals as goal

pub returns-in-Some-header_on-clause-ok : goal.returns-in-Some-header_on-clause-ok
returns-in-Some-header_on-clause-ok c =
    let found = c.in-Some-header_on.ensures.found in
    let whole = c.in-Some.ensures.0 ∙ sym (broken c.in-Some.line.now c.in-Some.after.now) in
    record {
      header = found.0;
      each = tt;
      parts = whole ∙ ap (λ (line : List ℕ). ended line ++ c.in-Some.after.now) found.1;
    }
