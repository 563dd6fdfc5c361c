use Rattle.std.proofs.Common.{◌≡◌, ◌+◌}
use Rattle.guarded.specs.Guarding.{Guards}
use Rattle.guarded.specs.Stowed.{Kept}
use Rattle.monitor.specs.Stepping.{IsSame}
use Rattle.monitor_fronts.specs.Holding.{holds}
use Rattle.example_guards.specs.declared.accounts.Accounts.{Accounts}
use Rattle.example_guards.proofs.accounts.pay.Given as goal

abbrev pub invariant-loop : goal.invariant-loop
invariant-loop g l =
    (l.guard.pass.ghost_name ≡ l.initial.guard.pass.ghost_name)
    × Guards l.guard.lock.now (g.P.Parking.seats l.guard.parking.now) l.guard.pass.now l.guard.slot
    × Kept (λ (both : Accounts). both.left + both.right ≡ 1000) l.guard.slot
    × IsSame l.fn.pass l.guard.pass.now × (holds l.guard.pass.now ≡ 1)
