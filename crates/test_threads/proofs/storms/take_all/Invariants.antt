use Rattle.std.specs.Prelude.{◌≡◌, All}
use Rattle.monitor.specs.Shown.{Shown}
use Rattle.test_threads.proofs.storms.take_all.Given as goal

abbrev pub invariant-loop : goal.invariant-loop
invariant-loop g l = All (λ (p : Shown). p.lock ≡ l.monitor) l.passes.items
