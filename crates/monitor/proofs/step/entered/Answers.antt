use Rattle.std.proofs.Common.{◌<◌, IfSome, sym, subst}
use Rattle.monitor.proofs.step.entered.Goals as goal

pub unpark-requires : goal.unpark-requires
unpark-requires g c =
    subst (λ z. IfSome z (λ j. j < g.P.Parking.seats c.args.parking.now)) (sym c.named_in.ensures) c.requires.places
