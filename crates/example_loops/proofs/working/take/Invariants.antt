use Rattle.std.proofs.Common.{◌≡◌}
use Rattle.locks.specs.Calling.{Guards, IsSame, holds}
use Rattle.example_loops.proofs.working.take.Given as goal

abbrev pub invariant-loop : goal.invariant-loop
invariant-loop g l =
    (goal.iterator-loop g).can_next l.iterator' × (goal.iterator-loop g).is_finite l.iterator'
    × (l.guard.pass.ghost_name ≡ l.initial.guard.pass.ghost_name)
    × Guards l.guard.lock.now l.guard.parking.now l.guard.pass.now l.guard.slot
    × IsSame l.fn.pass l.guard.pass.now × (holds l.guard.pass.now ≡ 1)
