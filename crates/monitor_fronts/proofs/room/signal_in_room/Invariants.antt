use Rattle.std.proofs.Common.{◌≡◌, IfSome}
use Rattle.monitor_fronts.specs.Below.{IsEntered}
use Rattle.monitor_fronts.specs.Room.{signal_step}
use Rattle.monitor_fronts.proofs.Rounds.{Trying}
use Rattle.monitor_fronts.proofs.room.signal_in_room.Given as goal

abbrev pub invariant-loop : goal.invariant-loop
invariant-loop g l =
    (goal.iterator-loop g).can_next l.iterator' × (goal.iterator-loop g).is_finite l.iterator'
    × Trying l.when_full (λ o a n. IsEntered (g.P.Parking.did l.parking) o (signal_step l.all l.condition) a n)
    l.fn.pass l.pass
    × IfSome l.folded (λ n. n ≡ l.pass.seen.base.entries)
