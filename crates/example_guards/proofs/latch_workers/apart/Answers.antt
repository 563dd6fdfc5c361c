use Rattle.std.proofs.Common.{◌≡◌}
use Rattle.monitor.proofs.Merging.{all_last}
use Rattle.monitor.specs.Shown.{Shown}
use Rattle.example_guards.proofs.latch_workers.apart.Goals as goal

pub returns-clause-last : goal.returns-clause-last
returns-clause-last c =
    (all_last (λ (p : Shown). p.lock ≡ c.args.monitor.now) c.args.passes.items
    c.pop.new.self.items c.in-Some.last
    c.in-Some.ensures.items c.requires.own).1

pub returns-clause-others : goal.returns-clause-others
returns-clause-others c =
    (all_last (λ (p : Shown). p.lock ≡ c.args.monitor.now) c.args.passes.items
    c.pop.new.self.items c.in-Some.last
    c.in-Some.ensures.items c.requires.own).0
