use Rattle.std.proofs.Common.{◌<◌, length, subst, sym, ◌∙◌}
use Rattle.history.specs.Base.{Base, sleepers_of}
use Rattle.history.proofs.base.Base.add.Goals as goal

pub follow_sleepers-requires : goal.follow_sleepers-requires
follow_sleepers-requires c =
    let a = c.self.inside in
    λ awaits. (
      a.header.seats,
      subst (λ (b : Base). length (sleepers_of b c.args.entry.at) < b.header.seats) (sym c.self.view_is)
          (c.requires.sleepers awaits),
      c.self.invariant.1,
    )

pub invariant_of-self : goal.invariant_of-self
invariant_of-self c = (
  c.join_line.ensures.capacity ∙ c.leave_line.ensures.capacity ∙ c.self.invariant.0,
  c.follow_sleepers.ensures.places c.self.inside.header.seats c.self.invariant.1,
)
