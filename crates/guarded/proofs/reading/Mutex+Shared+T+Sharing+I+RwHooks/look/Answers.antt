use Rattle.std.proofs.Common.{◌∙◌, ◌<◌, sym, subst, ℕ}
use Rattle.guarded.specs.Stowed.{IsFull}
use Rattle.guarded.proofs.Readers.{looks_on, value_lies}
use Rattle.guarded.proofs.reading.Mutex+Shared+T+Sharing+I+RwHooks.look.Goals as goal

pub unreachable-requires : goal.unreachable-requires
unreachable-requires g c =
    let look = c.look_with-seen.ensures in
    let on = looks_on c.args.pass.now c.look_with-seen.new.pass look.looked in
    value_lies g.I.Keeps.invariant c.look_with-seen.new.pass look.saw.0 look.looked.shows
    (subst (λ (n : ℕ). 0 < n) (sym on.0) c.requires.reads) (on.1 ∙ c.requires.writes_not) look.saw.1
    (λ full. look.saw.2.1.1 c.in-None.is (subst (λ s. IsFull s) (sym look.saw.2.2) full))
