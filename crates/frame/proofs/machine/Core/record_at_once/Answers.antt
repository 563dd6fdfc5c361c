use Rattle.std.proofs.Common.{Ok}
use Rattle.frame.specs.Below.{Recorded}
use Rattle.frame.proofs.Deciding.{step_next}
use Rattle.frame.proofs.Recording.{entered, stepped}
use Rattle.frame.proofs.machine.Core.record_at_once.Goals as goal

pub write-requires-clause-next : goal.write-requires-clause-next
write-requires-clause-next g c =
    step_next c.args.self.now c.args._seat c.args._step c.args.entry c.requires.seat c.requires.made

pub returns-in-Ok-clause-done : goal.returns-in-Ok-clause-done
returns-in-Ok-clause-done g c =
    let e = c.args.entry in
    let is = c.in-Ok.ensures in
    stepped c.args.self.now c.write.new.self c.args._seat c.args._step e (Ok (Recorded e c.in-Ok.name))
    c.requires.made (entered c.args.self.now c.write.new.self e c.in-Ok.name is.added is.names)
