use Rattle.guarded.proofs.Stowing.{may_lie}
use Rattle.guarded.proofs.mutex.Mutex.put_back.Goals as goal

pub give-requires-clause-fit : goal.give-requires-clause-fit
give-requires-clause-fit g c = λ _.
    may_lie g.I.Keeps.invariant c.args.slot c.requires.guards.there c.requires.kept
