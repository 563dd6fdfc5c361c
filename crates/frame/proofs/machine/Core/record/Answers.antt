use Rattle.frame.proofs.Recording.{entered}
use Rattle.frame.proofs.machine.Core.record.Goals as goal

pub returns : goal.returns
returns g c =
    entered c.args.self.now c.write.new.self c.args.entry c.in_ok-name.name c.in_ok-name.ensures.added
    c.in_ok-name.ensures.names
