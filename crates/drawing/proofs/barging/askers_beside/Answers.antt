use Rattle.std.proofs.Common.{ap, ◌∙◌, arith, is_some}
use mir.Val.{bool_byte}
use Rattle.summing.specs.Waits.{begun}
use Rattle.drawing.proofs.Asking.{as_number, askers_few, with_own}
use Rattle.drawing.proofs.barging.askers_beside.Goals as goal

pub returns-clause-is : goal.returns-clause-is
returns-clause-is c = λ s h stand count seat.
    let one = c.from.ensures ∙ ap bool_byte (c.asks.ensures s h stand)
    ∙ as_number (is_some (begun s h c.args.seat)) in
    omega (arith, one, count, with_own s h c.args.seat s.header.seats seat)

pub overflow_sub-result : goal.overflow_sub-result
overflow_sub-result c =
    let r = c.requires in
    let one = c.from.ensures ∙ ap bool_byte (c.asks.ensures r.start r.entries r.stand)
    ∙ as_number (is_some (begun r.start r.entries c.args.seat)) in
    omega (arith, one, r.count, with_own r.start r.entries c.args.seat r.start.header.seats r.seat)

pub returns-clause-few : goal.returns-clause-few
returns-clause-few c =
    let r = c.requires in
    omega (arith, r.count, askers_few r.start r.entries r.start.header.seats, r.stand.past.range.seats)
