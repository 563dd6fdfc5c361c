use Rattle.std.proofs.Common.{arith, eqb-true, eq-eqb}
use Rattle.std.proofs.lemmas.Bool.Decides.{nat_tests}
use Rattle.history_text.specs.Below.{X, S}
use Rattle.history_text.proofs.waiting_rules.holds_nothing.Goals as goal

pub returns-then-has-eq0 : goal.returns-then-has-eq0
returns-then-has-eq0 c = (
  λ t m. grind (arith, nat_tests, c.if-has-eq0.true),
  λ f. eq-eqb _ _ (f S),
)

pub returns-else-has-eq0 : goal.returns-else-has-eq0
returns-else-has-eq0 c = (
  λ t. absurd (omega (arith, eqb-true _ _ t, c.if-has-eq0.false)),
  λ f. absurd (omega (arith, f X, c.if-has-eq0.false)),
)
