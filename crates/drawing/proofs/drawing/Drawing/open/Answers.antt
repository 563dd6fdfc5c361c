use Rattle.std.proofs.Common.{[], refl, sym}
use Rattle.history.specs.Base.{based}
use Rattle.drawing.proofs.drawing.Drawing.open.Goals as goal

pub returns : goal.returns
returns c =
    let s = based c.args.base.now in
    let stand = c.in-Ok.ensures.stand in
    record {
      begins = refl;
      count = refl;
      stand = stand;
      asking = c.askers-askers.ensures s [] stand;
      under_way = c.in_ok-stretches.ensures s (sym (c.header.ensures s [] stand));
      ended = c.new.ensures.items;
      marked = c.new-2.ensures.items;
      points = c.new-3.ensures.items;
    }
