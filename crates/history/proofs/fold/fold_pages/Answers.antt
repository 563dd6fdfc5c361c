use Rattle.std.proofs.Common.{◌+◌, ◌≤◌, length, reverse, ap, subst, sym, ◌∙◌}
use Rattle.history.specs.Prelude.{MOST_FOLDED, Base, folded, MayFold}
use Rattle.history.proofs.Folding.{folds_nothing}
use Rattle.history.proofs.FoldSteps.{page_few, page_folded, page_may}
use Rattle.history.proofs.fold.fold_pages.Goals as goal

pub loop-page-init : goal.loop-page-init
loop-page-init c = sym (folds_nothing c.args.base.now c.requires.may.can.good)

pub fold_entries-requires-clause-may : goal.fold_entries-requires-clause-may
fold_entries-requires-clause-may c =
    subst (λ (b : Base). MayFold b (reverse c.entries.result.now)) (sym c.loop-page.invariant)
    (page_may c.args.base.now c.args.pages.now c.requires.may c.requires.few c.loop-page.page-index
    c.entries.result.now c.page-item.result c.loop-page-test.true (c.entries.ensures ∙ c.page-item.is))

pub fold_entries-requires-clause-few : goal.fold_entries-requires-clause-few
fold_entries-requires-clause-few c =
    subst (λ (b : Base). b.entries + length (reverse c.entries.result.now) ≤ MOST_FOLDED)
    (sym c.loop-page.invariant)
    (page_few c.args.base.now c.args.pages.now c.requires.may c.requires.few c.loop-page.page-index
    c.entries.result.now c.page-item.result c.loop-page-test.true (c.entries.ensures ∙ c.page-item.is))

pub loop-page-preserved : goal.loop-page-preserved
loop-page-preserved c =
    c.fold_entries.ensures
    ∙ ap (λ (b : Base). folded b (reverse c.entries.result.now)) c.loop-page.invariant
    ∙ page_folded c.args.base.now c.args.pages.now c.requires.may c.requires.few c.loop-page.page-index
    c.entries.result.now c.page-item.result c.loop-page-test.true (c.entries.ensures ∙ c.page-item.is)
