use Rattle.std.proofs.Common.{◌≡◌, ◌≤◌, ◌++◌, length, take, ap, subst, sym, ◌∙◌, arith, vec_capacity}
use Rattle.history.specs.inner.Paged.{PagesView, in_pages, used}
use Rattle.history.proofs.Paging.{in_first, kept_full, length-used}
use Rattle.history.proofs.pages.Pages.parts.Goals as goal

pub full_pages-requires : goal.full_pages-requires
full_pages-requires c =
    let a = c.self.inside in
    let l = length-used a.full a.others.items in
    let f = kept_full (used a.full a.others.items) a.full a.hand.items (vec_capacity a.hand) c.self.invariant.0 in
    omega (arith, l, f, ap length c.deref.ensures.value)

pub returns : goal.returns
returns c =
    let a = c.self.inside in
    sym (ap (λ (v : PagesView). v.entries) c.self.view_is)
    ∙ (λ j. (sym (in_first a.full a.others.items)
    ∙ ap (λ ps. in_pages (take a.full ps)) (sym c.deref.ensures.value)
    ∙ ap in_pages (sym c.full_pages.ensures)) j ++ sym c.deref-2.ensures.value j)
