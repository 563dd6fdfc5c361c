use Rattle.std.proofs.Common.{arith, ◌≡◌, ◌+◌, ◌-◌, ◌*◌, ◌/◌, ◌^◌, ◌<◌, ◌≤◌, zero, List, [], ◌∷◌, ◌++◌, length, replicate, ap, subst, sym, ◌∙◌, ⊎_elim, length-append, vec_capacity}
use Rattle.std.proofs.lemmas.List.{length-replicate}
use Rattle.history.specs.declared.entry.Entry.{Entry}
use Rattle.history.specs.inner.Paged.{AreFull, AreKept, PagesView, in_pages, used}
use Rattle.history.proofs.Paging.{empty_pages, entries_first, in_pages_more, kept_first, kept_full, kept_more, length-used, no_other, none_kept, parts_empty, used_empty, used_more}
use Rattle.history.proofs.pages.Pages.reserve_more.Goals as goal

pub invariant_of-self-in-Some : goal.invariant_of-self-in-Some
invariant_of-self-in-Some c =
    let a = c.self.inside in
    let more = c.div_ceil.result - c.places-places.result / 1024 in
    let none = none_kept (used a.full a.others.items) a.full a.hand.items (vec_capacity a.hand) c.self.invariant.0
    (omega (arith, c.capacity.ensures, c.if-capacity-eq0.true)) in
    let all = c.in_ok-reserve_pages.ensures.ok in
    let before = no_other a.full a.others.items a.hand.items (vec_capacity a.hand) c.self.invariant.0
    (omega (arith, c.capacity.ensures, c.if-capacity-eq0.true)) in
    let empty : AreFull zero c.reserve_pages.new.pages.items =
    subst (AreFull zero) (sym (all ∙ ap (λ ps. ps ++ replicate more []) before)) (empty_pages more) in
    let rest = (parts_empty c.reserve_pages.new.pages.items c.pop.new.self.items c.in-Some.page empty
    c.in-Some.ensures.items) in
    let many = ap length all ∙ length-append a.others.items (replicate more [])
    ∙ ap (λ n. length a.others.items + n) (length-replicate {A = List Entry} more []) in
    let places = ap (λ (v : PagesView). v.places) c.self.view_is in
    let wanted = c.requires.lacking in
    let few : 1024 * length c.reserve_pages.new.pages.items < 2 ^ 33 =
    omega (
      arith,
      many,
      places,
      wanted,
      c.places-places.ensures.value,
      c.div_ceil.ensures,
      c.requires.few,
      c.self.invariant.2,
      c.self.invariant.0.few,
      c.capacity.ensures,
      c.if-capacity-eq0.true,
    ) in
    let last = ap length c.in-Some.ensures.items ∙ length-append c.pop.new.self.items (c.in-Some.page ∷ []) in
    let nothing = ap length (entries_first c.reserve_pages.new.pages.items c.pop.new.self.items c.in-Some.page
    empty c.in-Some.ensures.items) in
    let parts = length-append (in_pages c.pop.new.self.items) c.in-Some.page in
    let same = ap length c.into_entries.ensures.items in
    let fits = c.self.invariant.0.fits in (
      subst (λ n. AreKept (used n c.pop.new.self.items) n c.into_entries.result.items
          (vec_capacity c.into_entries.result)) (sym none.2)
          (subst (λ ps. AreKept ps 0 c.into_entries.result.items (vec_capacity c.into_entries.result))
          (sym (used_empty c.pop.new.self.items rest))
          (subst (λ xs. AreKept c.pop.new.self.items 0 xs (vec_capacity c.into_entries.result))
          (sym c.into_entries.ensures.items)
          (subst (AreKept c.pop.new.self.items 0 c.in-Some.page) (sym c.into_entries.ensures.capacity)
          (kept_first c.reserve_pages.new.pages.items c.pop.new.self.items c.in-Some.page empty
          c.in-Some.ensures.items few)))),
      omega (arith, c.self.invariant.1, fits, c.capacity.ensures, c.if-capacity-eq0.true, nothing, parts, same),
      omega (
        arith,
        c.self.invariant.2,
        many,
        last,
        c.capacity.ensures,
        c.if-capacity-eq0.true,
        c.into_entries.ensures.capacity,
      ),
    )

pub invariant_of-self-else-capacity-eq0 : goal.invariant_of-self-else-capacity-eq0
invariant_of-self-else-capacity-eq0 c =
    let a = c.self.inside in
    let k = c.self.invariant.0 in
    let counted = length-used a.full a.others.items in
    let within : a.full ≤ length a.others.items =
    let f = kept_full (used a.full a.others.items) a.full a.hand.items (vec_capacity a.hand) k in
    omega (arith, f, counted) in
    let more = c.div_ceil.result - c.places-places.result / 1024 in
    let there = c.if-capacity-eq0.false in
    let page : vec_capacity a.hand ≡ 1024 =
    ⊎_elim (λ (q : vec_capacity a.hand ≡ 1024). q)
    (λ none. absurd (omega (arith, none.0, there, c.capacity.ensures))) k.page in
    let places = ap (λ (v : PagesView). v.places) c.self.view_is in
    let wanted = c.requires.lacking in
    let many = ap length c.in_ok-reserve_pages.ensures.ok ∙ length-append a.others.items (replicate more [])
    ∙ ap (λ n. length a.others.items + n) (length-replicate {A = List Entry} more []) in (
      subst (λ ps. AreKept ps a.full a.hand.items (vec_capacity a.hand))
          (sym (ap (used a.full) c.in_ok-reserve_pages.ensures.ok ∙ used_more a.full a.others.items _ within))
          (kept_more (used a.full a.others.items) a.full a.hand.items (vec_capacity a.hand) k _ page
          (omega (
            arith,
            page,
            places,
            wanted,
            c.self.invariant.2,
            c.places-places.ensures.value,
            c.div_ceil.ensures,
            c.requires.few,
            counted,
          ))),
      c.self.invariant.1,
      omega (arith, c.self.invariant.2, many),
    )

pub returns-in-Some-clause-same : goal.returns-in-Some-clause-same
returns-in-Some-clause-same c =
    let a = c.self.inside in
    let none = none_kept (used a.full a.others.items) a.full a.hand.items (vec_capacity a.hand) c.self.invariant.0
    (omega (arith, c.capacity.ensures, c.if-capacity-eq0.true)) in
    let more = c.div_ceil.result - c.places-places.result / 1024 in
    let before = no_other a.full a.others.items a.hand.items (vec_capacity a.hand) c.self.invariant.0
    (omega (arith, c.capacity.ensures, c.if-capacity-eq0.true)) in
    let empty : AreFull zero c.reserve_pages.new.pages.items =
    subst (AreFull zero)
    (sym (c.in_ok-reserve_pages.ensures.ok ∙ ap (λ ps. ps ++ replicate more []) before)) (empty_pages more) in
    let rest = parts_empty c.reserve_pages.new.pages.items c.pop.new.self.items c.in-Some.page empty
    c.in-Some.ensures.items in
    ap (λ n. in_pages (used n c.pop.new.self.items) ++ c.into_entries.result.items) none.2
    ∙ ap (λ ps. in_pages ps ++ c.into_entries.result.items) (used_empty c.pop.new.self.items rest)
    ∙ ap (λ xs. in_pages c.pop.new.self.items ++ xs) c.into_entries.ensures.items
    ∙ entries_first c.reserve_pages.new.pages.items c.pop.new.self.items c.in-Some.page empty
    c.in-Some.ensures.items
    ∙ sym none.1
    ∙ ap (λ (v : PagesView). v.entries) c.self.view_is

pub returns-else-capacity-eq0-clause-same : goal.returns-else-capacity-eq0-clause-same
returns-else-capacity-eq0-clause-same c =
    let a = c.self.inside in
    let counted = length-used a.full a.others.items in
    let f = kept_full (used a.full a.others.items) a.full a.hand.items (vec_capacity a.hand) c.self.invariant.0 in
    ap (λ ps. in_pages (used a.full ps) ++ a.hand.items) c.in_ok-reserve_pages.ensures.ok
    ∙ ap (λ ps. in_pages ps ++ a.hand.items)
    (used_more a.full a.others.items _ (omega (arith, f, counted)))
    ∙ ap (λ xs. xs ++ a.hand.items) (in_pages_more (used a.full a.others.items) _)
    ∙ ap (λ (v : PagesView). v.entries) c.self.view_is
