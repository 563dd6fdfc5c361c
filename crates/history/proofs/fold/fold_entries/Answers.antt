use Rattle.std.proofs.Common.{ap, subst, sym, ◌∙◌}
use Rattle.history.specs.Prelude.{Base, next_base}
use Rattle.history.specs.inner.BasePlaces.{HasPlaces}
use Rattle.history.proofs.Folding.{folds_nothing}
use Rattle.history.proofs.FoldSteps.{entry_folded, entry_places}
use Rattle.history.proofs.fold.fold_entries.Goals as goal

pub loop-entry-init : goal.loop-entry-init
loop-entry-init c = sym (folds_nothing c.args.base.now c.requires.may.can.good)

pub add-requires : goal.add-requires
add-requires c =
    let e = c.entry.result in
    subst (λ (b : Base). HasPlaces b e) (sym c.loop-entry.invariant)
    (entry_places c.args.base.now c.args.entries.now c.requires.may c.requires.few c.loop-entry.entry-index e
    _ c.loop-entry-test.true (c.entry.ensures ∙ c.entry-item.is))

pub loop-entry-preserved : goal.loop-entry-preserved
loop-entry-preserved c =
    let e = c.entry.result in
    c.add.ensures
    ∙ ap (λ (b : Base). next_base b e) c.loop-entry.invariant
    ∙ entry_folded c.args.base.now c.args.entries.now c.requires.may c.requires.few c.loop-entry.entry-index e
    _ c.loop-entry-test.true (c.entry.ensures ∙ c.entry-item.is)
