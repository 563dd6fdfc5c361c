use Rattle.std.proofs.Common.{◌≡◌, IfSome}
use Rattle.monitor_fronts.specs.Below.{IsCall}
use Rattle.monitor_fronts.proofs.Rounds.{Trying}
use Rattle.monitor_fronts.proofs.room.call_in_room.Given as goal

abbrev pub invariant-loop : goal.invariant-loop
invariant-loop g l =
    (goal.iterator-loop g).can_next l.iterator' × (goal.iterator-loop g).is_finite l.iterator'
    × Trying l.when_full (λ o a n. IsCall (g.P.Parking.did l.parking) o l.request l.how a n) l.fn.pass l.pass
    × (l.load ≡ l.fn.load)
    × IfSome l.folded (λ n. n ≡ l.pass.seen.base.entries)
