use Rattle.deciding.proofs.Bounds.{free_most}
use Rattle.deciding.proofs.decide.free_permits.Goals as goal

pub returns-clause-most : goal.returns-clause-most
returns-clause-most g c =
    let r = c.requires in
    free_most r.0 r.1 c.free.result (g.met.T.ObjectState.is_history r.0 r.1 c.args.state.now r.2) r.3
    (c.free.ensures r.0 r.1 r.2)
