use Rattle.std.proofs.Common.{◌∙◌, sym}
use Rattle.deciding.proofs.Bounds.{first_below}
use Rattle.deciding.proofs.decide.ready.Goals as goal

pub could-requires : goal.could-requires
could-requires g c =
    let r = c.requires in (
      r.0,
      r.1,
      r.2,
      first_below r.0 r.1 c.in-Some.first (g.met.T.ObjectState.is_history r.0 r.1 c.args.state.now r.2)
          (sym c.in-Some.is ∙ c.first.ensures r.0 r.1 r.2),
    )

pub returns-then-could-clause-below : goal.returns-then-could-clause-below
returns-then-could-clause-below g c s h st =
    first_below s h c.in-Some.first (g.met.T.ObjectState.is_history s h c.args.state.now st)
    (sym c.in-Some.is ∙ c.first.ensures s h st)
