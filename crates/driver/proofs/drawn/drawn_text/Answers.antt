use Rattle.std.proofs.Common.{sym}
use Rattle.std.proofs.Math.Seq.{take-length}
use Rattle.driver.proofs.Shown.{can_explain}
use Rattle.driver.proofs.drawn.drawn_text.Goals as goal

pub folded-requires : goal.folded-requires
folded-requires c = c.requires.judged.good

pub explained_at-requires : goal.explained_at-requires
explained_at-requires c =
    let k = c.requires in
    let legal = c.legal_front-legal.result.now in
    can_explain k.telling k.history c.args.judged k.judged c.verdict-verdict.result _ legal legal _
    c.verdict-verdict.ensures c.deref-2.ensures.value c.legal_front-legal.ensures (sym (take-length legal)) _ _ _
    c.deref-3.ensures.value c.entry_at-next.ensures
