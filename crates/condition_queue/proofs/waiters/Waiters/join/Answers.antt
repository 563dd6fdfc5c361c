use Rattle.std.proofs.Common.{◌≡◌, ◌+◌, ap, arith, get_or}
use Rattle.std.proofs.lemmas.List.{get_or_read}
use Rattle.condition_queue.proofs.Kept.{kept_joined, room_to_join}
use Rattle.condition_queue.proofs.waiters.Waiters.join.Goals as goal
use Rattle.condition_queue.proofs.waiters.Waiters.join.Goals.{After-index_mut-2}

-- the count of the condition, as it was read
count : (c : After-index_mut-2) → c.index_mut-2.result.now ≡ get_or c.self.inside.counts.items c.args.c 0
count c =
    let low = (rw (← c.self.view_is) at c.requires.condition) in
    get_or_read c.self.inside.counts.items c.args.c _ (omega (arith, low, c.self.invariant.each_counted))
    c.index_mut-2.ensures.value 0

pub overflow_add-index_mut : goal.overflow_add-index_mut
overflow_add-index_mut c =
    let room = room_to_join _ _ _ _ c.self.invariant c.args.c c.args.seat
    (rw (← c.self.view_is) at c.requires.seat)
    (rw (← c.self.view_is) at c.requires.awake) in
    omega (
      arith,
      room,
      count (goal.at.overflow_add-index_mut c).After-index_mut-2,
      c.self.invariant.counted c.args.c,
      c.self.invariant.few,
    )

pub invariant_of-self : goal.invariant_of-self
invariant_of-self c =
    kept_joined _ _ _ _ c.self.invariant c.args.c c.args.seat c.args.holds _ c.push_back.new.self
    (rw (← c.self.view_is) at c.requires.condition) (rw (← c.self.view_is) at c.requires.seat)
    (rw (← c.self.view_is) at c.requires.awake) c.push_back.ensures.last c.push_back.ensures.others
    c.push_back.ensures.moves
    (ap (λ n. n + 1) (count (goal.at.invariant_of-self c).After-index_mut-2))
