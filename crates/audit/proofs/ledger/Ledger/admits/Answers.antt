use Rattle.audit.proofs.Making.{some_candidate}
use Rattle.audit.proofs.ledger.Ledger.admits.Goals as goal

pub returns : goal.returns
returns c s h st =
    let third = c.makes-3.ensures s h st in (
      λ t. (c.possible_steps-steps.result.third, third.0 t),
      λ next. some_candidate s h c.args.entry c.possible_steps-steps.result c.makes.result c.makes-2.result
          c.makes-3.result
          c.possible_steps-steps.ensures c.if-makes.false c.if-makes-2.false
          (c.makes.ensures s h st).1 (c.makes-2.ensures s h st).1 third.1 next,
    )
