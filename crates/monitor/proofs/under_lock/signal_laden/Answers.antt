use Rattle.std.proofs.Common.{rules}
use Rattle.monitor.specs.Lawful.{IsLawfulCore}
use Rattle.monitor.proofs.Loads.{rests_signalled}
use Rattle.monitor.proofs.under_lock.signal_laden.Goals as goal

pub returns-clause-rests : goal.returns-clause-rests
returns-clause-rests g c =
    let kept : IsLawfulCore c.step-answer.new.self = search rules in
    rests_signalled (g.L.Load.rests c.args.laden.now.load) (g.met.L.Load.alike c.args.laden.now.load)
    c.args.laden.now.core c.step-answer.new.self c.args.seat c.args.step c.step-answer.result c.requires.kept kept
    c.requires.signals c.step-answer.ensures.answered c.requires.rests
