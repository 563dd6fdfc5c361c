use Rattle.std.proofs.Common.{◌≡◌, ℕ, Bool, true, false, refl}
use Rattle.monitor.specs.inner.Load.{is_signal}
use Rattle.monitor_fronts.proofs.MakingRoom.{signals_keep}
use Rattle.guarded.specs.Below.{signal_step}
use Rattle.guarded.proofs.mutex.Mutex.tell.Goals as goal

tells : (all : Bool) (condition : ℕ) → is_signal (signal_step all condition) ≡ true
tells true condition = refl
tells false condition = refl

pub returns-clause-keeps : goal.returns-clause-keeps
returns-clause-keeps g c =
    signals_keep c.self.inside.when_full (g.P.Parking.did c.args.parking.now)
    (signal_step c.args.all c.args.condition) c.args.pass.now c.signal_in_room.new.pass c.signal_in_room.result
    c.signal_in_room.ensures.called.same c.signal_in_room.ensures.signalled (tells c.args.all c.args.condition)
