use Rattle.std.proofs.Common.{◌≡◌, ℕ, ◌+◌, ◌-◌, ◌<◌, ◌≤◌, ◌^◌, [], length, set, Option, None, Ok, ◌∙◌, ap, sym, subst, refl, arith}
use Rattle.frame.specs.Below.{counts, base_on, start_on, line, releases, reserves}
use Rattle.frame.specs.Prelude.{CoreView, IsAdded, start_of, with_history, seat_behind, told_in}
use Rattle.frame.proofs.AtOnce.{keeps_still, joined_still, names_nobody}
use Rattle.frame.proofs.Telling.{table_behind}
use Rattle.frame.proofs.Stepping.{Grown, Names, Needs, Next, next_seen, within, needs, grown, is_added, stands_next, calls_next, exclusive_next, shared_next}
use Rattle.frame.proofs.machine.Core.enter.Goals as goal
use Rattle.frame.proofs.machine.Core.enter.Goals.{After-owed-was_owed, After-owed_behind-owed, After-add}

-- what is known of the entry before it is added
next : (g : _) (c : After-owed-was_owed g) → Next c.self.inside.header
    (base_on c.self.inside.header c.self.inside.history) c.self.inside.history.entries c.args.entry
next g c =
    next_seen c.self.inside.header c.self.inside.history c.args.entry _ c.self.invariant c.self.view_is
    c.requires.next

-- the hooks' object is that of the header
same : (g : _) (c : After-owed-was_owed g) → c.object-object.result ≡ c.self.inside.header.object
same g c = c.object-object.ensures ∙ sym (ap (λ (v : CoreView). v.header.object) c.self.view_is)

-- the room that it needs
needed : (g : _) (c : After-owed_behind-owed g) → c.object-object.result ≡ c.self.inside.header.object →
    Next c.self.inside.header
    (base_on c.self.inside.header c.self.inside.history) c.self.inside.history.entries c.args.entry →
    Needs c.self.inside.header
    (base_on c.self.inside.header c.self.inside.history) c.self.inside.history.entries c.args.entry
    c.owed-was_owed.result c.owed_behind-owed.result
needed g c object n =
    let a = c.self.inside in
    let e = c.args.entry in
    needs a.header (base_on a.header a.history) a.history.entries e c.owed-was_owed.result
    c.owed_behind-owed.result n (c.owed-was_owed.ensures.value ∙ c.self.invariant.owed)
    (subst (λ o. c.owed_behind-owed.result ≡ c.owed-was_owed.result + reserves o e - releases o e) object
    c.owed_behind-owed.ensures)

-- what the history is then
grows : (g : _) (c : After-add g) → Needs c.self.inside.header
    (base_on c.self.inside.header c.self.inside.history) c.self.inside.history.entries c.args.entry
    c.owed-was_owed.result c.owed_behind-owed.result →
    Grown c.self.inside.header c.args.entry c.self.inside.history c.add.new.self
grows g c m =
    let a = c.self.inside in
    let was = c.owed-was_owed.ensures in
    let roomy = c.in-Ok.ensures in
    grown a.header c.args.entry a.history c.make_room.new.self c.add.new.self _ _ _ m.owed was.value
    c.saturating_sub-needed.ensures roomy.within_cap roomy.same c.self.invariant.cap c.add.ensures
    was.reserved roomy.reserved roomy.places

-- whom it names
names : (g : _) (c : After-add g) →
    Names c.self.inside.header c.self.inside.history c.args.entry None
names g c =
    let a = c.self.inside in
    names_nobody a.header a.history c.args.entry c.requires.nobody
    (subst (λ (v : CoreView). line (start_of v) v.entries ≡ []) (sym c.self.view_is) c.requires.empty)

-- the table
table : (g : _) (c : After-add g) → c.object-object.result ≡ c.self.inside.header.object →
    c.update.new.seats.items
    ≡ table_behind c.self.inside.header.object c.args.entry None c.self.inside.seats.items
table g c object =
    let a = c.self.inside in
    let e = c.args.entry in
    subst (λ o. c.update.new.seats.items ≡ set a.seats.items e.seat (seat_behind o e a.seats.items)) object
    c.update.ensures

pub owed_behind-owed-requires-clause-owed : goal.owed_behind-owed-requires-clause-owed
owed_behind-owed-requires-clause-owed g c =
    let a = c.self.inside in
    let e = c.args.entry in
    let at = (goal.at.owed_behind-owed-requires-clause-owed g c).After-owed-was_owed in
    subst (λ o. releases o e ≤ c.owed-was_owed.result + reserves o e) (sym (same g at))
    (within a.header (base_on a.header a.history) a.history.entries e c.owed-was_owed.result (next g at)
    (c.owed-was_owed.ensures.value ∙ c.self.invariant.owed))

pub change-requires : goal.change-requires
change-requires g c =
    let a = c.self.inside in
    let n = next g (goal.at.change-requires g c).After-owed-was_owed in
    (counts (start_on a.header a.history) a.history.entries, c.self.invariant.hooks, n.allowed)

pub update-requires-clause-calls : goal.update-requires-clause-calls
update-requires-clause-calls g c =
    let a = c.self.inside in
    let n = next g (goal.at.update-requires-clause-calls g c).After-owed-was_owed in
    calls_next a.header a.history c.args.entry.seat c.self.invariant n.seat

pub update-requires-clause-exclusive : goal.update-requires-clause-exclusive
update-requires-clause-exclusive g c =
    let a = c.self.inside in
    let e = c.args.entry in
    let at = (goal.at.update-requires-clause-exclusive g c).After-owed-was_owed in
    let n = next g at in
    subst (λ o. (seat_behind o e a.seats.items).exclusive < 2 ^ 32) (sym (same g at))
    (exclusive_next a.header (base_on a.header a.history) a.history.entries e _ n
    (c.self.invariant.tabled e.seat n.seat))

pub update-requires-clause-shared : goal.update-requires-clause-shared
update-requires-clause-shared g c =
    let a = c.self.inside in
    let e = c.args.entry in
    let s = c.self.invariant in
    let at = (goal.at.update-requires-clause-shared g c).After-owed-was_owed in
    let n = next g at in
    let short : length a.history.entries ≤ a.header.cap = let r = s.room in omega (arith, r) in
    subst (λ o. (seat_behind o e a.seats.items).shared < 2 ^ 128) (sym (same g at))
    (shared_next a.header (base_on a.header a.history) a.history.entries e _ s.range n short
    (s.tabled e.seat n.seat))

pub invariant_of-self-2 : goal.invariant_of-self-2
invariant_of-self-2 g c =
    let at = goal.at.invariant_of-self-2 g c in
    let a = c.self.inside in
    let b = base_on a.header a.history in
    let h = a.history.entries in
    let e = c.args.entry in
    let s = c.self.invariant in
    let n = next g at.After-owed-was_owed in
    let object = same g at.After-owed-was_owed in
    let changed = c.change.ensures.changed (counts (start_on a.header a.history) h) s.hooks n.allowed in
    stands_next (g.H.Hooks.agrees a.hooks) (g.H.Hooks.agrees c.change.new.hooks) a.header a.history
    c.add.new.self a.queue a.queue a.waiters a.waiters a.seats.items c.update.new.seats.items e None s n
    changed (keeps_still (start_on a.header a.history) h e a.queue a.waiters s.waiting c.requires.nobody)
    (joined_still (b.entries + length h) a.queue s.joins) (names g at.After-add) (table g at.After-add object)
    (grows g at.After-add (needed g at.After-owed_behind-owed object n))

pub returns-clause-added : goal.returns-clause-added
returns-clause-added g c =
    let at = goal.at.returns-clause-added g c in
    let a = c.self.inside in
    let e = c.args.entry in
    let n = next g at.After-owed-was_owed in
    let object = same g at.After-owed-was_owed in
    let s = c.self.invariant in
    let nobody : Option ℕ = None in
    let P : CoreView → Type 0 =
    λ w. IsAdded w e (Ok nobody) (with_history a.header c.add.new.self (told_in c.update.new.seats.items)) in (
      refl,
      subst P c.self.view_is
          (is_added (g.H.Hooks.agrees a.hooks) a.header e nobody a.history c.add.new.self a.queue a.waiters
          a.seats.items c.update.new.seats.items s n
          (grows g at.After-add (needed g at.After-owed_behind-owed object n)) (names g at.After-add)
          (table g at.After-add object)),
    )
