use Rattle.std.proofs.Common.{◌≡◌, ◌∙◌, ap, sym, subst}
use Rattle.frame.specs.Below.{Header, counts, start_on}
use Rattle.frame.specs.Prelude.{CoreView, start_of, level_of}
use Rattle.frame.proofs.Bounds.{level_most}
use Rattle.frame.proofs.Stepping.{history_of}
use Rattle.frame.proofs.machine.Core.available.Goals as goal

pub returns-in-Semaphore-clause-most : goal.returns-in-Semaphore-clause-most
returns-in-Semaphore-clause-most g c =
    let a = c.self.inside in
    let s = c.self.invariant in
    let P : CoreView → Type 0 = λ v. c.level.result ≡ level_of (counts (start_of v) v.entries) in
    level_most (start_on a.header a.history) a.history.entries c.in-Semaphore.field-0 c.in-Semaphore.field-1
    c.level.result (history_of s) (ap (λ (k : Header). k.object) s.based ∙ c.in-Semaphore.is)
    (subst P (sym c.self.view_is) c.level.ensures)
