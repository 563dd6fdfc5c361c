use Rattle.std.proofs.Common.{◌<◌, length, Vec, Global, ap, sym, subst, arith}
use Rattle.std.proofs.lemmas.List.{length-map}
use Rattle.history_text.specs.Below.{Sleeper, Base, sleepers_of}
use Rattle.history_text.proofs.base_under_way.take_line.Goals as goal

pub put_asleep-requires-clause-condition : goal.put_asleep-requires-clause-condition
put_asleep-requires-clause-condition c =
    let room = c.requires.sleepers c.in-Sleeps.condition c.in-Sleeps.sleeper c.in-Sleeps.is in
    let lists = length-map c.base.inside.sleepers.items (λ (list : Vec Sleeper Global). list.items) in
    let same = ap (λ (b : Base). length b.sleepers) c.base.view_is in
    omega (arith, room.0, lists, same)

pub put_asleep-requires-clause-places : goal.put_asleep-requires-clause-places
put_asleep-requires-clause-places c =
    let room = c.requires.sleepers c.in-Sleeps.condition c.in-Sleeps.sleeper c.in-Sleeps.is in (
      c.base.inside.header.seats,
      subst (λ (b : Base). length (sleepers_of b c.in-Sleeps.condition) < b.header.seats) (sym c.base.view_is)
          room.1,
      c.base.invariant.1,
    )

pub invariant_of-base-in-Sleeps : goal.invariant_of-base-in-Sleeps
invariant_of-base-in-Sleeps c = (
  c.base.invariant.0,
  c.put_asleep.ensures.places c.base.inside.header.seats c.base.invariant.1,
)
