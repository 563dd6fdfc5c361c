use Rattle.std.proofs.Common.{◌<◌, IfSome, sym, subst}
use Rattle.monitor.proofs.InLine.{named_place}
use Rattle.monitor.proofs.monitor.Monitor.signal_call.Goals as goal

pub unpark-requires : goal.unpark-requires
unpark-requires g c =
    subst (λ z. IfSome z (λ j. j < g.P.Parking.seats c.args.parking.now)) (sym c.named_in.ensures)
    (named_place _ _ _ _ c.signal_step-told.result _ c.requires.can c.signal_step-told.ensures.stepped)
