use Rattle.std.proofs.Common.{arith, refl}
use Rattle.driver.proofs.Shown.{can_explain}
use Rattle.driver.proofs.drawn.picture_of.Goals as goal

pub folded-folded-requires : goal.folded-folded-requires
folded-folded-requires c = c.requires.judged.good

pub drawn_of-requires : goal.drawn_of-requires
drawn_of-requires c =
    let k = c.requires in
    let j = c.args.judged.now in
    let can = can_explain k.telling k.history j k.judged c.verdict.result _ c.legal_front-legal.result.now _ c.args.end
    c.verdict.ensures c.deref.ensures.value c.legal_front-legal.ensures c.front-shown.ensures _ 0 _ refl refl in
    record { range = can.range; can = can.can; few = omega (arith, can.few, can.range.cap) }

pub overflow_add-entries : goal.overflow_add-entries
overflow_add-entries c =
    let k = c.requires.judged in
    omega (arith, k.few, k.count, c.folded-folded.ensures.few)
