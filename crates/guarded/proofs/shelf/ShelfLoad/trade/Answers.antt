use mir.Syntax.{w64}
use mir.Val.{of_z, to_z}
use Rattle.std.proofs.Common.{◌∙◌, sym}
use Rattle.std.proofs.lemmas.Int.{to_z-of_z}
use Rattle.guarded.proofs.Shelving.{shelved}
use Rattle.guarded.proofs.shelf.ShelfLoad.trade.Goals as goal

pub returns-clause-moves : goal.returns-clause-moves
returns-clause-moves g c i k l turn before after told rests carries brings fit =
    let x = shelved g.I.Keeps.invariant i k l turn (to_z w64 (of_z w64 c.args.free))
    (λ t. to_z-of_z w64 c.args.free c.ranges.free ∙ told t) c.args.self.now.items c.args.there.now.items
    c.trade.new.here c.trade.new.there
    record { takes = c.trade.ensures.takes; gives = c.trade.ensures.gives; stays = c.trade.ensures.stays }
    rests.0 rests.1 carries brings in (
      (x.lies, x.here_meet),
      x.there_meet,
      (x.moved, λ same. (λ d. record c.args.there.now { items = x.same same d }), λ u. tt),
    )

pub returns-clause-stays : goal.returns-clause-stays
returns-clause-stays g c k rests told same =
    let s = c.trade.ensures.stays
    (to_z-of_z w64 c.args.free c.ranges.free ∙ (told rests.0.semaphore ∙ sym rests.0.each)) in
    (λ d. record c.args.self.now { items = s.0 d }, λ d. record c.args.there.now { items = s.1 d })
