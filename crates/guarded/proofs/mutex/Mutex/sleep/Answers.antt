use Rattle.std.proofs.Common.{◌≡◌, ◌<◌, ◌∙◌, arith, subst}
use Rattle.guarded.specs.Below.{holds}
use Rattle.guarded.specs.Prelude.{MutexView, awaits}
use Rattle.monitor_fronts.proofs.MakingRoom.{awaits_keep}
use Rattle.guarded.proofs.Failing.{stays_so}
use Rattle.guarded.proofs.Stowing.{has_value, kept_so, may_lie}
use Rattle.guarded.proofs.mutex.Mutex.sleep.Goals as goal

pub call_in_room-requires-clause-fit : goal.call_in_room-requires-clause-fit
call_in_room-requires-clause-fit g c = λ _.
    may_lie g.I.Keeps.invariant c.args.slot.now c.requires.guards.there c.requires.kept

pub returns-clause-keeps : goal.returns-clause-keeps
returns-clause-keeps g c =
    awaits_keep c.self.inside.when_full (g.P.Parking.did c.args.parking.now) c.args.condition c.args.how
    c.args.pass.now c.call_in_room.new.pass c.call_in_room.result c.call_in_room.ensures.called.same
    c.call_in_room.ensures.made

pub returns-clause-guards : goal.returns-clause-guards
returns-clause-guards g c =
    let was = c.requires.guards in
    let keeps : holds c.call_in_room.new.pass ≡ holds c.args.pass.now = returns-clause-keeps g c in
    let had = was.some in
    let may = c.call_in_room.ensures.moves
    (may_lie g.I.Keeps.invariant c.args.slot.now c.requires.guards.there c.requires.kept) in
    let some : 0 < holds c.call_in_room.new.pass = omega (arith, keeps, had) in record {
      lock = c.call_in_room.ensures.called.same.lock ∙ was.lock;
      places = was.places;
      some = some;
      there =
          has_value g.I.Keeps.invariant (holds c.call_in_room.new.pass) c.call_in_room.new.load may
          c.call_in_room.ensures.carries some;
    }

pub returns-clause-kept : goal.returns-clause-kept
returns-clause-kept g c =
    kept_so g.I.Keeps.invariant c.call_in_room.new.load (c.call_in_room.ensures.moves
    (may_lie g.I.Keeps.invariant c.args.slot.now c.requires.guards.there c.requires.kept))

pub returns-clause-awaited : goal.returns-clause-awaited
returns-clause-awaited g c = (
  c.call_in_room.result,
  subst (λ (v : MutexView). awaits (g.P.Parking.did c.args.parking.now) c.args.condition c.args.how v.when_full
      c.args.pass.now c.call_in_room.result c.call_in_room.new.pass) c.self.view_is c.call_in_room.ensures.made,
  c.whether.ensures,
)

pub returns-clause-stays : goal.returns-clause-stays
returns-clause-stays g c =
    stays_so c.args.slot.now c.call_in_room.new.load c.whether.result c.call_in_room.result c.whether.ensures
    c.call_in_room.ensures.stays
