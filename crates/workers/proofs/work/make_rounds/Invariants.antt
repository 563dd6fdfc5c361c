use Rattle.std.proofs.Common.{◌≡◌, ◌*◌, ◌≤◌, List, length}
use Rattle.script.specs.declared.limits.TheConstants.{MOST_CALLS}
use Rattle.workers.specs.Prelude.{Unrecorded, Made, rounds, LetsBelow}
use Rattle.workers.specs.inner.Homes.{homes}
use Rattle.workers.specs.inner.Keeping.{IsKept}
use Rattle.workers.proofs.work.make_rounds.Given as goal

abbrev pub invariant-loop : goal.invariant-loop
invariant-loop g l =
    (l.first ≤ MOST_CALLS * l.counter) × (l.kept.count ≤ MOST_CALLS * l.counter)
    × (homes l.passes ≡ homes l.fn.passes)
    × ((answers : List Unrecorded) × IsKept l.kept answers
    × Made l.seat 0 (rounds l.counter l.worker.calls) l.fn.passes answers l.passes)
    × (l.first ≡ l.counter * length l.worker.calls) × LetsBelow (g.G.Gate.answers l.gate) l.seat l.first
