use Rattle.std.specs.Prelude.{◌≡◌, All}
use Rattle.monitor.specs.Shown.{Shown}
use Rattle.test_threads.proofs.plays.act_all.Given as goal

abbrev pub invariant-loop-seat : goal.invariant-loop-seat
invariant-loop-seat g l = All (λ (p : Shown). p.lock ≡ l.monitor) l.passes.items
