use Rattle.driver.proofs.Totals.{lines}
use Rattle.driver.proofs.audit_text.legal_text.Goals as goal

pub returns : goal.returns
returns c =
    lines _ _ _ _ _ _ _ _ _ _ _ c.in_ok-out.ensures.items c.in_ok-put_base.ensures c.in_ok-put_line.ensures
    c.in_ok-put_line-2.ensures c.in_ok-put_totals.ensures c.in_ok-push.ensures.items
