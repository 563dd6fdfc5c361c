use Rattle.std.proofs.Common.{rules, ◌≡◌, length, map, ap, sym, subst, ◌∙◌, [], All}
use Rattle.std.proofs.lemmas.List.{length-map}
use Rattle.history.specs.Base.{Base}
use Rattle.history_text.proofs.BaseOpening.{each_empty, empty_each}
use Rattle.history_text.proofs.base_fitting.nobody_sleeps.Goals as goal

pub returns-then-len-base : goal.returns-then-len-base
returns-then-len-base c =
    let same : map (λ list. list.items) c.deref.result.now ≡ c.args.base.now.sleepers =
    ap (map (λ list. list.items)) c.deref.ensures.value ∙ ap (λ (b : Base). b.sleepers) c.base.view_is in
    let long : length (map (λ list. list.items) c.deref.result.now) ≡ length c.deref.result.now =
    length-map c.deref.result.now (λ list. list.items) in
    let len : length c.args.base.now.sleepers ≡ c.args.base.now.header.conditions =
    search (rules, same, long) in (
      λ t. (
        len,
        subst (All (λ list. list ≡ [])) same
            (each_empty (λ list. list.items) c.deref.result.now (c.all_empty.ensures.0 t)),
      ),
      λ p. c.all_empty.ensures.1 (empty_each (λ list. list.items) c.deref.result.now
          (subst (All (λ list. list ≡ [])) (sym same) p.1)),
    )
