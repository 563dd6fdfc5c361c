use Rattle.std.specs.Prelude.{codes}
use Rattle.history.proofs.Writing.{two_parts}
use Rattle.history.proofs.header_text.put_conditions.Goals as goal

pub returns-clause-ok : goal.returns-clause-ok
returns-clause-ok c =
    two_parts _ _ _ _ (codes " conditions ") (codes " cap ") _ _
    (rw c.from.ensures at c.in_ok-put_named.ensures.ok) (rw c.from-2.ensures at c.put_named-2.ensures.ok)
