use Rattle.std.proofs.Common.{arith, [], ◌++◌, length, ap, subst, sym, ◌∙◌, vec_capacity}
use Rattle.history.specs.inner.Paged.{AreKept, PagesView, in_pages, used}
use Rattle.history.proofs.Paging.{kept_none, nothing_used}
use Rattle.history.proofs.pages.Pages.clear.Goals as goal

pub invariant_of-self : goal.invariant_of-self
invariant_of-self c =
    let a = c.self.inside in
    let none = ap length c.clear.ensures.items in (
      subst (λ xs. AreKept (used 0 a.others.items) 0 xs (vec_capacity c.clear.new.self))
          (sym c.clear.ensures.items)
          (subst (AreKept (used 0 a.others.items) 0 []) (sym c.clear.ensures.capacity)
          (kept_none a.others.items a.full a.hand.items (vec_capacity a.hand) c.self.invariant.0)),
      omega (arith, none),
      omega (arith, c.clear.ensures.capacity, c.self.invariant.2),
    )

pub returns : goal.returns
returns c =
    let a = c.self.inside in
    (λ j. (let v : PagesView = record {
      entries = nothing_used a.others.items j ++ c.clear.ensures.items j;
      places = a.places;
    } in v))
    ∙ ap (λ (v : PagesView). (let w : PagesView = record v { entries = [] } in w)) c.self.view_is
