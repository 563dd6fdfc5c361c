use Rattle.std.proofs.Common.{arith, [], ◌∷◌, ◌++◌, length, ap, subst, sym, ◌∙◌, length-append, vec_capacity}
use Rattle.history.specs.inner.Paged.{AreKept, used}
use Rattle.history.proofs.Paging.{kept_add, kept_full, kept_length, page_there}
use Rattle.history.proofs.pages.Pages.add.Goals as goal

pub overflow_add-self : goal.overflow_add-self
overflow_add-self c =
    let a = c.self.inside in
    let k = c.self.invariant.0 in
    let few = k.few in
    let fits = k.fits in
    let full = kept_full (used a.full a.others.items) a.full a.hand.items (vec_capacity a.hand) k in
    omega (arith, few, fits, full, c.self.invariant.1)

pub invariant_of-self : goal.invariant_of-self
invariant_of-self c =
    let a = c.self.inside in
    let n = c.find_place.new.full in
    let ps = used n c.find_place.new.others.items in
    let h = c.find_place.new.hand in
    let k = c.find_place.ensures.kept in
    let room = page_there ps n h.items (vec_capacity h) k c.find_place.ensures.place in
    let before = kept_length (used a.full a.others.items) a.full a.hand.items (vec_capacity a.hand) c.self.invariant.0 in
    let now = kept_length ps n h.items (vec_capacity h) k in
    let same = ap length c.find_place.ensures.entries in
    let longer = ap length c.push_reserved.ensures.items ∙ length-append h.items (c.of.result ∷ []) in (
      subst (λ xs. AreKept ps n xs (vec_capacity c.push_reserved.new.self))
          (sym c.push_reserved.ensures.items)
          (subst (AreKept ps n (h.items ++ c.of.result ∷ [])) (sym c.push_reserved.ensures.capacity)
          (kept_add ps n h.items (vec_capacity h) k c.of.result room
          (omega (arith, room, c.find_place.ensures.place)))),
      omega (arith, c.self.invariant.1, before, now, same, longer),
      omega (
        arith,
        c.self.invariant.2,
        c.find_place.ensures.others,
        c.find_place.ensures.capacity,
        c.push_reserved.ensures.capacity,
      ),
    )
