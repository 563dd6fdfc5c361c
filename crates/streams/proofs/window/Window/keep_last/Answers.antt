use Rattle.std.proofs.Common.{arith}
use Rattle.streams.proofs.Sliding.{kept_last}
use Rattle.streams.proofs.window.Window.keep_last.Goals as goal

pub returns-clause-bytes : goal.returns-clause-bytes
returns-clause-bytes c =
    let w = c.self.inside in
    rw (← c.self.view_is) (kept_last w.bytes.items w.at w.end c.args.left (omega (arith, c.self.invariant))
    (omega (arith, c.self.invariant)) (rw (← c.self.view_is) at c.requires))
