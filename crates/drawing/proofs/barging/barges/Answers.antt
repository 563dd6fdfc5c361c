use Rattle.std.proofs.Common.{true, false, ltb, ap, ◌∙◌, sym}
use Rattle.drawing.proofs.Asking.{barges_by}
use Rattle.drawing.proofs.barging.barges.Goals as goal

pub returns-then-takes_anew : goal.returns-then-takes_anew
returns-then-takes_anew c = λ s h stand count seat.
    ap (ltb 0) (c.askers_beside.ensures.is s h stand count seat)
    ∙ sym (barges_by s c.args.entry h true (sym c.if-takes_anew.true ∙ c.takes_anew.ensures s h stand))

pub returns-else-takes_anew : goal.returns-else-takes_anew
returns-else-takes_anew c = λ s h stand count seat.
    c.if-takes_anew.false
    ∙ sym (barges_by s c.args.entry h false (sym c.if-takes_anew.false ∙ c.takes_anew.ensures s h stand))

pub takes_anew-requires : goal.takes_anew-requires
takes_anew-requires c =
    let r = c.requires in
    record { start = r.start; front = r.entries; stand = r.stand; seat = r.seat; room = r.room }
