use Rattle.std.proofs.Common.{◌∙◌, ap, sym}
use Rattle.summing.specs.Waits.{asks}
use Rattle.drawing.proofs.Asking.{asks_by}
use Rattle.drawing.proofs.barging.asks.Goals as goal

pub returns-in-Some : goal.returns-in-Some
returns-in-Some c = λ s h stand.
    ap asks (sym c.in-Some.is ∙ c.place_of.ensures s h stand) ∙ asks_by s h c.args.seat stand.past.legal

pub returns-in-None : goal.returns-in-None
returns-in-None c = λ s h stand.
    ap asks (sym c.in-None.is ∙ c.place_of.ensures s h stand) ∙ asks_by s h c.args.seat stand.past.legal
