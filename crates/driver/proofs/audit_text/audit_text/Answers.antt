use Rattle.std.proofs.lemmas.Result.{IfOk-weaker}
use Rattle.driver.proofs.audit_text.audit_text.Goals as goal

pub returns-in-Legal : goal.returns-in-Legal
returns-in-Legal c = λ b h same base long ended judged.
    let is = rw c.in-Legal.is at judged in
    rw c.in-Legal.is (IfOk-weaker c.legal_text.result _ _ (λ text told. cc) c.legal_text.ensures)
