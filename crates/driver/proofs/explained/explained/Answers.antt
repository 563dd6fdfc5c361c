use Rattle.driver.proofs.Shown.{can_explain}
use Rattle.driver.proofs.explained.explained.Goals as goal

pub folded-folded-requires : goal.folded-folded-requires
folded-folded-requires c = c.requires.judged.good

pub explained_at-requires : goal.explained_at-requires
explained_at-requires c =
    let k = c.requires in
    can_explain k.telling k.history c.args.judged k.judged c.verdict-verdict.result _ c.legal_front-legal.result.now _ _
    c.verdict-verdict.ensures c.deref.ensures.value c.legal_front-legal.ensures c.front.ensures _ _ _
    c.deref-2.ensures.value c.entry_at-next.ensures
