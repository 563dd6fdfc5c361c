use Rattle.std.proofs.Common.{◌+◌, vec_capacity, ap, sym, ◌∙◌, arith, rules}
use Rattle.std.proofs.lemmas.Option.{none-some, slice_get-get_or, slice_get_within}
use Rattle.condition_queue.proofs.Lists.{length-once}
use Rattle.condition_queue.specs.Sleepers.{asleep_on}
use Rattle.frame.specs.inner.Snapshot.{sleeper_in}
use Rattle.frame.proofs.Written.{one_waiter}
use Rattle.frame.proofs.snapshot.write_asleep.Goals as goal

pub loop-init : goal.loop-init
loop-init c = search rules

pub push_reserved-requires : goal.push_reserved-requires
push_reserved-requires c =
    let asleep = asleep_on c.args.waiters.now c.args.condition in
    let at = sym c.loop.invariant.next ∙ c.in-Some.is in
    let low = slice_get_within asleep c.loop.counter c.in-Some.seat at in
    let few = length-once (vec_capacity c.args.list.now) asleep c.len-end.ensures.once c.requires.places in
    omega (arith, low, few, c.loop.invariant.len, c.loop.invariant.capacity)

pub loop-preserved : goal.loop-preserved
loop-preserved c =
    let asleep = asleep_on c.args.waiters.now c.args.condition in
    let at = sym c.loop.invariant.next ∙ c.in-Some.is in
    record {
      next = c.behind-next.ensures.next c.args.condition c.loop.counter at;
      items = c.push_reserved.ensures.items
          ∙ one_waiter (sleeper_in c.args.seats.now) asleep c.loop.counter c.in-Some.seat c.loop.list.items
          c.sleeper_in.result at c.loop.invariant.items c.sleeper_in.ensures;
      len = c.push_reserved.ensures.len ∙ ap (λ n. n + 1) c.loop.invariant.len;
      capacity = c.push_reserved.ensures.capacity ∙ c.loop.invariant.capacity;
    }

pub returns-in-None-clause-items : goal.returns-in-None-clause-items
returns-in-None-clause-items c =
    let asleep = asleep_on c.args.waiters.now c.args.condition in
    let waits =
    slice_get-get_or asleep c.loop.counter 0 (omega (arith, c.loop-test.true, c.len-end.ensures.len)) in
    absurd (none-some _ (sym c.in-None.is ∙ c.loop.invariant.next ∙ waits))
