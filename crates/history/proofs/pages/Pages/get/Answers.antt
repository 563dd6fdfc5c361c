use Rattle.std.proofs.Common.{◌≡◌, ◌/◌, ◌%◌, ◌≤◌, None, length, take, ap, ◌∙◌, sym, subst, arith, slice_get, Some, vec_capacity}
use Rattle.std.proofs.lemmas.Grind.{common_steps}
use Rattle.std.proofs.lemmas.Option.{gets}
use Rattle.history.specs.inner.Paged.{PagesView, used}
use Rattle.history.proofs.Paging.{at_first, at_place, get_hand, get_other, kept_full, length-used}
use Rattle.history.proofs.pages.Pages.get.Goals as goal

pub returns-then-place-self : goal.returns-then-place-self
returns-then-place-self c =
    let a = c.self.inside in
    let there : c.packed_at.result ≡ slice_get a.hand.items (c.args.number % 1024) =
    grind (arith, common_steps, gets, c.packed_at.ensures) in
    subst (λ (v : PagesView). c.packed_at.result ≡ slice_get v.entries c.args.number) c.self.view_is
    (there ∙ sym (get_hand (used a.full a.others.items) a.full a.hand.items (vec_capacity a.hand) c.self.invariant.0
    c.args.number c.if-place-self.true))

pub returns-in-Some : goal.returns-in-Some
returns-in-Some c =
    let a = c.self.inside in
    let there : slice_get (take a.full a.others.items) (c.args.number / 1024) ≡ Some c.in-Some.page.now =
    grind (arith, common_steps, gets) in
    subst (λ (v : PagesView). c.get-in-Some.result ≡ slice_get v.entries c.args.number) c.self.view_is
    (c.get-in-Some.ensures ∙ sym (ap (λ p. at_place p (c.args.number % 1024)) there)
    ∙ at_first a.full a.others.items (c.args.number / 1024) (c.args.number % 1024)
    ∙ sym (get_other (used a.full a.others.items) a.full a.hand.items (vec_capacity a.hand) c.self.invariant.0 c.args.number
    c.if-place-self.false))

pub returns-in-None : goal.returns-in-None
returns-in-None c =
    let a = c.self.inside in
    let there : slice_get (take a.full a.others.items) (c.args.number / 1024) ≡ None =
    grind (arith, common_steps, gets) in
    subst (λ (v : PagesView). None ≡ slice_get v.entries c.args.number) c.self.view_is
    (sym (ap (λ p. at_place p (c.args.number % 1024)) there)
    ∙ at_first a.full a.others.items (c.args.number / 1024) (c.args.number % 1024)
    ∙ sym (get_other (used a.full a.others.items) a.full a.hand.items (vec_capacity a.hand) c.self.invariant.0 c.args.number
    c.if-place-self.false))

pub full_pages-requires : goal.full_pages-requires
full_pages-requires c =
    let a = c.self.inside in
    let l = length-used a.full a.others.items in
    let f = kept_full (used a.full a.others.items) a.full a.hand.items (vec_capacity a.hand) c.self.invariant.0 in
    omega (arith, l, f, ap length c.deref-2.ensures.value)
