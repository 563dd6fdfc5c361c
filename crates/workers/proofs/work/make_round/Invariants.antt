use Rattle.std.proofs.Common.{◌≡◌, ◌+◌, ◌≤◌, List, reverse, take}
use Rattle.workers.specs.Prelude.{Unrecorded, Made, LetsBelow}
use Rattle.workers.specs.inner.Homes.{homes}
use Rattle.workers.specs.inner.Keeping.{Adds}
use Rattle.workers.proofs.work.make_round.Given as goal

abbrev pub invariant-loop-call : goal.invariant-loop-call
invariant-loop-call g l =
    (l.number ≡ l.first + l.call-index) × (l.kept.count ≤ l.fn.kept.count + l.call-index)
    × (homes l.passes ≡ homes l.fn.passes)
    × ((answers : List Unrecorded) × Adds l.fn.kept answers l.kept
    × Made l.seat l.first (reverse (take l.call-index l.calls)) l.fn.passes answers l.passes)
    × LetsBelow (g.G.Gate.answers l.gate) l.seat l.number
