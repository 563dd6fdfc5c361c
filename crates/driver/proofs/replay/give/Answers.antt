use Rattle.driver.proofs.replay.give.Goals as goal

pub returns : goal.returns
returns g c = c.keep.ensures c.args.core.now _ c.in-Some.ensures.done
