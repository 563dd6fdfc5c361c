use Rattle.std.proofs.Common.{◌≡◌, true}
use Rattle.monitor.specs.Prelude.{CalledQuietly, holds_of}
use Rattle.monitor.proofs.StillWaiting.{AllStillWait}
use Rattle.monitor.proofs.monitor.Monitor.wait.Given as goal

abbrev pub invariant-loop : goal.invariant-loop
invariant-loop g l =
    (goal.iterator-loop g).can_next l.iterator' × (goal.iterator-loop g).is_finite l.iterator'
    × AllStillWait (g.P.Parking.did l.parking) l.fn.pass l.fn.waiting.stage l.fn.waiting.limits
    (l.interrupts.taken ≡ true) l.pass l.waiting.stage
    × (l.waiting.limits ≡ l.fn.waiting.limits)
    × (l.interrupts.seat ≡ l.fn.pass.seat)
    × g.L.Load.carries l.load (holds_of l.pass)
    × (g.L.Load.is_counted ≡ true → l.load ≡ l.fn.load)
    × CalledQuietly l.fn.pass l.pass
    × (g.L.Load.fit l.fn.load → g.L.Load.fit l.load)
