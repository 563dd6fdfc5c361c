use Rattle.std.proofs.Common.{◌∙◌, ap}
use Rattle.guarded.specs.inner.Pooling.{brought_by}
use Rattle.guarded.proofs.Fetching.{call_ends, is_of_semaphore}
use Rattle.guarded.proofs.pool.Pool.call.Goals as goal

pub call_in_room-requires-clause-brings : goal.call_in_room-requires-clause-brings
call_in_room-requires-clause-brings g c = c.requires.brings ∙ ap brought_by c.in-Acquire.is

pub returns-in-Acquire-clause-ends : goal.returns-in-Acquire-clause-ends
returns-in-Acquire-clause-ends g c =
    call_ends (λ s. Unit {0}) (g.P.Parking.did c.args.parking.now) c.self.inside.when_full c.args.asked _
    c.args.pass.now c.call_in_room.new.pass c.call_in_room.result c.args.shelf.now
    c.call_in_room.new.load c.in-Acquire.is
    (is_of_semaphore c.self.view_is c.self.invariant c.requires.can.is_of) c.requires.brings
    c.call_in_room.ensures.called.same c.call_in_room.ensures.called.shows
    c.call_in_room.ensures.made c.call_in_room.ensures.moves

pub enter_in_room-requires-clause-brings : goal.enter_in_room-requires-clause-brings
enter_in_room-requires-clause-brings g c = c.requires.brings ∙ ap brought_by c.in-Try.is

pub returns-in-Try-clause-ends : goal.returns-in-Try-clause-ends
returns-in-Try-clause-ends g c =
    call_ends (λ s. Unit {0}) (g.P.Parking.did c.args.parking.now) c.self.inside.when_full c.args.asked _
    c.args.pass.now c.enter_in_room.new.pass c.enter_in_room.result c.args.shelf.now
    c.enter_in_room.new.load c.in-Try.is
    (is_of_semaphore c.self.view_is c.self.invariant c.requires.can.is_of) c.requires.brings
    c.enter_in_room.ensures.called.same c.enter_in_room.ensures.called.shows
    c.enter_in_room.ensures.entered c.enter_in_room.ensures.moves

pub enter_in_room-requires-in-Release-clause-brings : goal.enter_in_room-requires-in-Release-clause-brings
enter_in_room-requires-in-Release-clause-brings g c = c.requires.brings ∙ ap brought_by c.in-Release.is

pub returns-in-Release-clause-ends : goal.returns-in-Release-clause-ends
returns-in-Release-clause-ends g c =
    call_ends (λ s. Unit {0}) (g.P.Parking.did c.args.parking.now) c.self.inside.when_full c.args.asked _
    c.args.pass.now c.enter_in_room-in-Release.new.pass c.enter_in_room-in-Release.result c.args.shelf.now
    c.enter_in_room-in-Release.new.load c.in-Release.is
    (is_of_semaphore c.self.view_is c.self.invariant c.requires.can.is_of) c.requires.brings
    c.enter_in_room-in-Release.ensures.called.same c.enter_in_room-in-Release.ensures.called.shows
    c.enter_in_room-in-Release.ensures.entered c.enter_in_room-in-Release.ensures.moves
