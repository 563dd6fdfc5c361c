use Rattle.std.proofs.Common.{◌+◌, ◌≤◌, length, reverse, ap, subst, sym, ◌∙◌}
use Rattle.std.proofs.lemmas.List.{reverse-append}
use Rattle.history.specs.Prelude.{MOST_FOLDED, Base, folded, MayFold}
use Rattle.history.specs.inner.Paged.{in_pages}
use Rattle.history.proofs.FoldSteps.{folds_more, may_begin, may_go_on}
use Rattle.history.proofs.fold.fold_parts.Goals as goal

pub fold_pages-requires-clause-may : goal.fold_pages-requires-clause-may
fold_pages-requires-clause-may c =
    let b = c.args.base.now in
    let parts = reverse-append (in_pages c.args.pages.now) c.args.hand.now in
    may_begin b (reverse c.args.hand.now) (reverse (in_pages c.args.pages.now))
    (subst (MayFold b) parts c.requires.may)
    (subst (λ h. b.entries + length h ≤ MOST_FOLDED) parts c.requires.few)

pub fold_entries-requires-clause-may : goal.fold_entries-requires-clause-may
fold_entries-requires-clause-may c =
    let b = c.args.base.now in
    let parts = reverse-append (in_pages c.args.pages.now) c.args.hand.now in
    subst (λ (now : Base). MayFold now (reverse c.args.hand.now)) (sym c.fold_pages.ensures)
    (may_go_on b (reverse c.args.hand.now) (reverse (in_pages c.args.pages.now))
    (subst (MayFold b) parts c.requires.may)
    (subst (λ h. b.entries + length h ≤ MOST_FOLDED) parts c.requires.few))

pub returns : goal.returns
returns c =
    let b = c.args.base.now in
    let parts = reverse-append (in_pages c.args.pages.now) c.args.hand.now in
    c.fold_entries.ensures
    ∙ ap (λ (now : Base). folded now (reverse c.args.hand.now)) c.fold_pages.ensures
    ∙ folds_more b (reverse c.args.hand.now) (reverse (in_pages c.args.pages.now))
    (subst (MayFold b) parts c.requires.may)
    (subst (λ h. b.entries + length h ≤ MOST_FOLDED) parts c.requires.few)
    ∙ ap (folded b) (sym parts)
