use Rattle.std.proofs.Common.{false, refl, arith}
use Rattle.acquire_queue.proofs.Nodes.{room, place_free, kept_joined, live-push}
use Rattle.acquire_queue.proofs.queue.Queue.join.Goals as goal

pub push_back-number-requires-clause-free : goal.push_back-number-requires-clause-free
push_back-number-requires-clause-free c =
    place_free _ _ _ _ c.self.invariant c.args.arrival (rw (← c.self.view_is) at c.requires.seat)
    (rw (← c.self.view_is) at c.requires.absent)

pub overflow_add-self : goal.overflow_add-self
overflow_add-self c =
    let more = room _ _ _ _ c.self.invariant c.args.arrival (rw (← c.self.view_is) at c.requires.seat)
    (rw (← c.self.view_is) at c.requires.absent) in
    omega (arith, more, c.self.invariant.few)

pub invariant_of-self : goal.invariant_of-self
invariant_of-self c =
    kept_joined _ _ _ _ c.self.invariant c.args.arrival (rw (← c.self.view_is) at c.requires.seat)
    (rw (← c.self.view_is) at c.requires.absent) c.push_back-number.new.self c.push_back-number.result
    c.push_back-number.ensures.nodes c.push_back-number.ensures.vacant c.push_back-number.ensures.places

pub returns-clause-line : goal.returns-clause-line
returns-clause-line c =
    rw (← c.self.view_is, c.push_back-number.ensures.nodes) (live-push (record {
      number = c.push_back-number.result;
      node = record { arrival = c.args.arrival; cancelled = false };
    }) c.self.inside.nodes.nodes refl)
