use Rattle.std.proofs.Common.{◌≡◌, map, vec_capacity, Vec, Global, sym, ◌∙◌, subst, arith, length-set}
use Rattle.std.proofs.lemmas.List.Elements.{All-get_or, All-set}
use Rattle.frame.specs.Below.{Sleeper, asleep_on}
use Rattle.frame.specs.inner.Snapshot.{sleeper_in}
use Rattle.frame.proofs.Written.{all_written, written_more}
use Rattle.frame.proofs.snapshot.write_sleepers.Goals as goal

pub returns-clause-items : goal.returns-clause-items
returns-clause-items c =
    all_written (λ (list : Vec Sleeper Global). list.items)
    (λ k. map (sleeper_in c.args.seats.now) (asleep_on c.args.waiters.now k)) c.loop-condition.lists.items
    c.args.conditions c.loop-condition.invariant.lists
    (λ k l. c.loop-condition.invariant.written k (omega (arith, l, c.loop-condition-test.false)))

pub write_asleep-requires-clause-places : goal.write_asleep-requires-clause-places
write_asleep-requires-clause-places c =
    let room = c.requires.places in
    let all = c.loop-condition.invariant.places room.0 room.1 in
    let list = c.index_mut.result.now in
    let capacity : vec_capacity list ≡ room.0 =
    subst (λ (l : Vec Sleeper Global). vec_capacity l ≡ room.0) (sym c.index_mut.ensures.value)
    (All-get_or (λ (l : Vec Sleeper Global). vec_capacity l ≡ room.0) c.loop-condition.lists.items
    c.loop-condition.condition list
    (omega (arith, c.loop-condition.invariant.lists, c.loop-condition-test.true)) all) in
    λ i t. (let low = room.2 c.loop-condition.condition i t in omega (arith, low, capacity))

pub loop-condition-preserved : goal.loop-condition-preserved
loop-condition-preserved c =
    let low = c.loop-condition-test.true in
    let sized = c.loop-condition.invariant.lists in
    record {
      written = written_more (λ (list : Vec Sleeper Global). list.items)
          (λ k. map (sleeper_in c.args.seats.now) (asleep_on c.args.waiters.now k)) c.loop-condition.lists.items
          c.loop-condition.condition c.write_asleep.new.list (omega (arith, low, sized))
          c.write_asleep.ensures.items c.loop-condition.invariant.written;
      lists = length-set c.loop-condition.lists.items c.loop-condition.condition c.write_asleep.new.list
          ∙ sized;
      places = λ n all.
          (let before = c.loop-condition.invariant.places n all in
          let list = c.index_mut.result.now in
          let capacity : vec_capacity list ≡ n =
          subst (λ (l : Vec Sleeper Global). vec_capacity l ≡ n) (sym c.index_mut.ensures.value)
          (All-get_or (λ (l : Vec Sleeper Global). vec_capacity l ≡ n) c.loop-condition.lists.items
          c.loop-condition.condition list (omega (arith, low, sized)) before) in
          All-set (λ (l : Vec Sleeper Global). vec_capacity l ≡ n) c.loop-condition.lists.items
          c.loop-condition.condition c.write_asleep.new.list
          (c.write_asleep.ensures.capacity ∙ capacity) before);
    }
