use Rattle.std.proofs.Common.{◌≤◌, subst, sym}
use Rattle.driver.specs.Answers.{AllAnswers}
use Rattle.driver.proofs.EntryLines.{base_of}
use Rattle.driver.proofs.answers.Answers.write_left.Goals as goal

pub write_text-requires-clause-base : goal.write_text-requires-clause-base
write_text-requires-clause-base g c =
    base_of c.self.inside.header.header c.self.inside.history.base c.self.invariant.1
    (subst (λ (a : AllAnswers). 1 ≤ a.base.entries) (sym c.self.view_is) c.requires.folded)
