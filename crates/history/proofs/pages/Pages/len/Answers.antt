use Rattle.std.proofs.Common.{arith, ◌≡◌, ◌≤◌, length, subst, vec_capacity}
use Rattle.history.specs.inner.Paged.{PagesView, used}
use Rattle.history.proofs.Paging.{kept_length, kept_within, length-used}
use Rattle.history.proofs.pages.Pages.len.Goals as goal

pub returns-clause-value : goal.returns-clause-value
returns-clause-value c =
    let a = c.self.inside in
    let n = kept_length (used a.full a.others.items) a.full a.hand.items (vec_capacity a.hand) c.self.invariant.0 in
    subst (λ (v : PagesView). a.len ≡ length v.entries) c.self.view_is
    (omega (arith, n, c.self.invariant.1))

pub returns-clause-within : goal.returns-clause-within
returns-clause-within c =
    let a = c.self.inside in
    let n = kept_length (used a.full a.others.items) a.full a.hand.items (vec_capacity a.hand) c.self.invariant.0 in
    let m = kept_within (used a.full a.others.items) a.full a.hand.items (vec_capacity a.hand) c.self.invariant.0 in
    subst (λ (v : PagesView). a.len ≤ v.places) c.self.view_is
    (let l = length-used a.full a.others.items in
    omega (arith, n, m, l, c.self.invariant.1, c.self.invariant.2))

pub returns-clause-few : goal.returns-clause-few
returns-clause-few c =
    let a = c.self.inside in
    let few = c.self.invariant.0.few in
    let n = kept_length (used a.full a.others.items) a.full a.hand.items (vec_capacity a.hand) c.self.invariant.0 in
    let m = kept_within (used a.full a.others.items) a.full a.hand.items (vec_capacity a.hand) c.self.invariant.0 in
    omega (arith, few, n, m, c.self.invariant.1)
