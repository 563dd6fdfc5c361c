use Rattle.std.proofs.Common.{◌∙◌, ℕ, Result, sym, ap, length, subst}
use Rattle.guarded.specs.Below.{Fault, DrainsFree, number_of}
use Rattle.monitor_fronts.proofs.Permits.{drains_left, drains_take_free}
use Rattle.guarded.specs.Prelude.{drains, MutexView}
use Rattle.guarded.proofs.Fetching.{as_many, drained_items}
use Rattle.guarded.proofs.Shelving.{in_none}
use Rattle.guarded.proofs.pool.Pool.drain.Goals as goal

pub enter_in_room-reply-requires-clause-carries : goal.enter_in_room-reply-requires-clause-carries
enter_in_room-reply-requires-clause-carries g c = in_none g.I.Keeps.invariant _ c.new.ensures

pub returns-in-Ok-clause-returned : goal.returns-in-Ok-clause-returned
returns-in-Ok-clause-returned g c =
    let r = c.enter_in_room-reply.result in (
      r,
      subst (λ (v : MutexView). drains (g.P.Parking.did c.args.parking.now) v.when_full c.args.pass.now r
          c.enter_in_room-reply.new.pass) c.self.view_is c.enter_in_room-reply.ensures.entered,
      as_many (number_of r) (length c.enter_in_room-reply.new.load.items) c.in-Ok.field-0
          (sym c.number.ensures ∙ c.in-Ok.is)
          (drained_items (λ s. Unit {0}) _ c.enter_in_room-reply.new.load _ _ (number_of r) (ap length c.new.ensures)
          (drains_left (g.P.Parking.did c.args.parking.now) c.self.inside.when_full c.args.pass.now
          c.enter_in_room-reply.new.pass r c.enter_in_room-reply.ensures.called.same
          c.enter_in_room-reply.ensures.entered) c.enter_in_room-reply.ensures.moves),
    )

pub returns-in-Ok-clause-all : goal.returns-in-Ok-clause-all
unfolding returns-in-Ok-clause-returned
returns-in-Ok-clause-all g c =
    let r = c.enter_in_room-reply.result in
    subst (λ (z : Result ℕ Fault). DrainsFree c.args.pass.now z c.enter_in_room-reply.new.pass)
    (sym (returns-in-Ok-clause-returned g c).2)
    (drains_take_free c.self.inside.when_full (g.P.Parking.did c.args.parking.now) c.args.pass.now
    c.enter_in_room-reply.new.pass r c.enter_in_room-reply.ensures.called.same c.enter_in_room-reply.ensures.entered)
