use Rattle.std.proofs.Common.{true, false, ◌≡◌, ◌+◌, ◌<◌, [], reverse, subst, sym, ◌∙◌, refl, IsSomeAnd, Option}
use Rattle.std.proofs.lemmas.List.{length-reverse}
use Rattle.history.specs.Prelude.{MOST_FOLDED, Base, HistoryView, MayFold}
use Rattle.history.proofs.FoldSteps.{may_next}
use Rattle.history.proofs.entries.History.fold.Goals as goal

pub returns-clause-goes_on : goal.returns-clause-goes_on
returns-clause-goes_on c =
    let a = c.self.inside in
    let h = reverse a.pages.entries in
    let may = subst (λ (v : HistoryView). IsSomeAnd v.base (λ b. MayFold b v.entries)) (sym c.self.view_is)
    c.requires in
    let room : IsSomeAnd a.base (λ (b : Base). MOST_FOLDED < b.entries + c.len-count.result) → ⊥ =
    λ t. (let q : true ≡ false = c.if-not-fold_onto.ensures.full.1 t in cc) in
    subst (λ (o : Option Base). IsSomeAnd o (λ b. MayFold b [])) (sym (c.if-not-fold_onto.ensures.folded refl))
    (may_next a.base h c.len-count.result may (c.len-count.ensures.value ∙ sym (length-reverse a.pages.entries))
    room)
