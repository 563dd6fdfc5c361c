use Rattle.std.proofs.Common.{sym}
use Rattle.std.proofs.Math.Seq.{take-length}
use Rattle.driver.proofs.Shown.{can_explain, goes_on}
use Rattle.driver.proofs.paged.paged_text.Goals as goal

pub folded-folded-requires : goal.folded-folded-requires
folded-folded-requires c = c.requires.judged.good

pub state_before-requires : goal.state_before-requires
state_before-requires c =
    let k = c.requires in
    let can = can_explain k.telling k.history c.args.judged k.judged c.verdict-verdict.result _
    c.legal_front-legal.result.now _ _ c.verdict-verdict.ensures c.deref.ensures.value c.legal_front-legal.ensures
    c.split_at.ensures.front _ _ _ c.deref-2.ensures.value c.entry_at-next.ensures in
    record { range = can.range; can = can.can; few = can.few }

pub explained_at-requires : goal.explained_at-requires
explained_at-requires c =
    let k = c.requires in
    let legal = c.legal_front-legal.result.now in
    goes_on c.args.judged.base c.in-Some.state legal _ _ _
    (can_explain k.telling k.history c.args.judged k.judged c.verdict-verdict.result _ legal legal _
    c.verdict-verdict.ensures c.deref.ensures.value c.legal_front-legal.ensures (sym (take-length legal)) _ _ _
    c.deref-2.ensures.value c.entry_at-next.ensures)
    c.split_at.ensures.by_index.0 (rw c.in-Some.is at c.in-Ok.ensures.state)
    (rw c.in-Some.is at c.in-Ok.ensures.goes_on)
