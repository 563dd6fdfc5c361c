use Rattle.std.proofs.Common.{◌≡◌, true, List, ◌++◌, vec_len}
use Rattle.std.specs.List.{All}
use Rattle.word_lock.specs.Point.{Before}
use Rattle.monitor.specs.Shown.{Shown}
use Rattle.monitor.proofs.Merging.{logs_of}
use Rattle.monitor.proofs.monitor.Monitor.close_with.Given as goal

abbrev pub invariant-loop-pass : goal.invariant-loop-pass
invariant-loop-pass g l =
    (l.joined.lock ≡ l.lock) × (l.joined.free ≡ true)
    × ((done : List Shown) × (l.fn.passes.items ≡ l.passes.items ++ done) × (l.joined.logs ≡ logs_of done)
    × All (λ p. Before p.seen l.joined.seen) done)
    × All (λ p. p.lock ≡ l.lock) l.passes.items

abbrev pub decreases-loop-pass : goal.decreases-loop-pass
decreases-loop-pass g l = vec_len l.passes
