use Rattle.monitor.proofs.Loads.{rests_trimmed}
use Rattle.monitor.proofs.under_lock.trim_laden.Goals as goal

pub returns-clause-rests : goal.returns-clause-rests
returns-clause-rests g c =
    rests_trimmed (g.L.Load.rests c.args.laden.now.load) (g.met.L.Load.alike c.args.laden.now.load)
    c.args.laden.now.core c.trim-count.new.self c.trim-count.result c.requires.kept
    c.trim-count.ensures.done c.requires.rests
