use Rattle.std.proofs.Common.{map, Vec, Global, ap, sym, ◌∙◌, subst, arith}
use Rattle.std.proofs.lemmas.List.{length-map}
use Rattle.frame.specs.Below.{Sleeper, Base, folded}
use Rattle.frame.specs.inner.Snapshot.{IsKept, with_sleep}
use Rattle.frame.proofs.Written.{line_fits, unheld_known, waiter_seat, written}
use Rattle.frame.proofs.snapshot.write_base.Goals as goal

pub overflow_add-base : goal.overflow_add-base
overflow_add-base c =
    let k = subst (λ (b : Base). IsKept b c.requires.0 c.args.count c.args.totals.now c.args.queue.now
    c.args.waiters.now c.args.seats.now) (sym c.base.view_is) c.requires.1 in
    omega (arith, k.few, k.counted, c.from.ensures)

pub unheld_after-base-inside-requires-clause-few : goal.unheld_after-base-inside-requires-clause-few
unheld_after-base-inside-requires-clause-few c = c.requires.1.small

pub unheld_after-base-inside-requires-clause-some : goal.unheld_after-base-inside-requires-clause-some
unheld_after-base-inside-requires-clause-some c =
    let k = subst (λ (b : Base). IsKept b c.requires.0 c.args.count c.args.totals.now c.args.queue.now
    c.args.waiters.now c.args.seats.now) (sym c.base.view_is) c.requires.1 in
    unheld_known k

pub write_seats-requires : goal.write_seats-requires
write_seats-requires c =
    let k = subst (λ (b : Base). IsKept b c.requires.0 c.args.count c.args.totals.now c.args.queue.now
    c.args.waiters.now c.args.seats.now) (sym c.base.view_is) c.requires.1 in
    let table = c.base.inside.seats.ok in
    omega (arith, k.seats, k.may_fold.can.good.seats, table.0, table.1)

pub write_line-requires : goal.write_line-requires
write_line-requires c =
    let k = subst (λ (b : Base). IsKept b c.requires.0 c.args.count c.args.totals.now c.args.queue.now
    c.args.waiters.now c.args.seats.now) (sym c.base.view_is) c.requires.1 in
    let fits = line_fits _ c.requires.0 c.args.seats.now k.may_fold k.tabled c.args.queue.now.arrivals
    k.waiting.line in
    omega (arith, fits, c.base.invariant.0)

pub write_sleepers-requires-clause-conditions : goal.write_sleepers-requires-clause-conditions
write_sleepers-requires-clause-conditions c =
    let k = subst (λ (b : Base). IsKept b c.requires.0 c.args.count c.args.totals.now c.args.queue.now
    c.args.waiters.now c.args.seats.now) (sym c.base.view_is) c.requires.1 in
    sym k.waiting.conditions

pub write_sleepers-requires-clause-lists : goal.write_sleepers-requires-clause-lists
write_sleepers-requires-clause-lists c =
    let k = subst (λ (b : Base). IsKept b c.requires.0 c.args.count c.args.totals.now c.args.queue.now
    c.args.waiters.now c.args.seats.now) (sym c.base.view_is) c.requires.1 in
    sym (length-map c.base.inside.sleepers.items (λ (list : Vec Sleeper Global). list.items))
    ∙ k.may_fold.can.good.conditions

pub write_sleepers-requires-clause-places : goal.write_sleepers-requires-clause-places
write_sleepers-requires-clause-places c =
    let k = subst (λ (b : Base). IsKept b c.requires.0 c.args.count c.args.totals.now c.args.queue.now
    c.args.waiters.now c.args.seats.now) (sym c.base.view_is) c.requires.1 in (
      c.base.inside.header.seats,
      c.base.invariant.1,
      waiter_seat _ c.requires.0 c.args.seats.now k.may_fold k.tabled c.args.waiters.now k.waiting.sleepers,
    )

pub invariant_of-base : goal.invariant_of-base
invariant_of-base c = (
  c.save_sleeps.ensures.capacity ∙ c.write_line.ensures.capacity ∙ c.base.invariant.0,
  c.write_sleepers.ensures.places c.base.inside.header.seats c.base.invariant.1,
)

pub returns : goal.returns
returns c =
    λ h is.
    (let k = subst (λ (b : Base). IsKept b h c.args.count c.args.totals.now c.args.queue.now c.args.waiters.now
    c.args.seats.now) (sym c.base.view_is) is in
    sym (written _ h c.args.count c.args.totals.now c.args.queue.now c.args.waiters.now c.args.seats.now
    c.from.result c.unheld_after-base-inside.result _ _ _ k c.from.ensures c.unheld_after-base-inside.ensures c.write_seats.ensures
    (c.save_sleeps.ensures.items ∙ ap (map (with_sleep c.args.seats.now)) c.write_line.ensures.items)
    c.write_sleepers.ensures.items)
    ∙ ap (λ (b : Base). folded b h) c.base.view_is)
