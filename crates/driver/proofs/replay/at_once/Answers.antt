use Rattle.driver.proofs.replay.at_once.Goals as goal

pub returns : goal.returns
returns g c = c.keep.ensures c.args.core.now c.args.step (rw c.entry_at_once.ensures c.in-Some.ensures.done)
