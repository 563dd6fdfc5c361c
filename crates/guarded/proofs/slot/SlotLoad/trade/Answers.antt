use Rattle.std.proofs.Common.{ap}
use Rattle.monitor.specs.declared.load.Holds.{Holds}
use Rattle.guarded.proofs.Stowing.{moved, not_crossed}
use Rattle.guarded.proofs.slot.SlotLoad.trade.Goals as goal

pub returns-clause-moves : goal.returns-clause-moves
returns-clause-moves g c i k l t before after free rests carries brings fit =
    moved g.I.Keeps.invariant i k l t c.args.before.exclusive c.args.after.exclusive before.0 after.0
    c.args.self.now c.args.there.now c.trade.new.here c.trade.new.there c.trade.ensures.here c.trade.ensures.there rests
    carries fit

pub returns-clause-stays : goal.returns-clause-stays
returns-clause-stays g c k rests free same =
    let held = ap (λ (h : Holds). h.exclusive) same in
    let b = c.args.before.exclusive in let a = c.args.after.exclusive in
    (not_crossed b a _ _ _ held c.trade.ensures.here, not_crossed b a _ _ _ held c.trade.ensures.there)
