use Rattle.std.proofs.Common.{◌∙◌, arith, length-set}
use Rattle.history_text.proofs.CountingUp.{counted_up}
use Rattle.history_text.proofs.spelt_number.SpeltNumber.count_up.Goals as goal

pub invariant_of-self : goal.invariant_of-self
invariant_of-self c =
    let held = c.self.inside in
    let i = c.self.invariant in (
      length-set _ _ _ ∙ i.0,
      i.1,
      i.2,
      counted_up held.text held.len held.number i.0 i.1 i.2 (omega (arith, c.if-self-lt18446744073709551615.true)) i.3
          c.if-last-lt57.true,
    )
