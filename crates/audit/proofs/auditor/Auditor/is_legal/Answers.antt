use Rattle.std.proofs.Common.{refl}
use Rattle.std.proofs.lemmas.Bool.{false≢true}
use Rattle.audit.proofs.auditor.Auditor.is_legal.Goals as goal

pub returns-in-None : goal.returns-in-None
returns-in-None c = λ s h was.
    let stand = rw c.in-None.is at was.so_far in
    (λ t. stand.past.legal, λ l. refl)

pub returns-in-Some : goal.returns-in-Some
returns-in-Some c = λ s h was.
    let wrong = rw c.in-Some.is at was.so_far in
    (λ t. absurd (false≢true t), λ l. absurd (wrong.1 l))
