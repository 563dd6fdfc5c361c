use Rattle.std.proofs.Common.{◌≡◌, ℕ, ◌+◌, ◌-◌, ◌<◌, ◌≤◌, ◌^◌, ◌∷◌, cond, length, Option, None, Result, Ok, Err, ◌∙◌, ap, sym, subst, arith, rules, length-set, IfSome}
use Rattle.frame.specs.Below.{counts, Fault, base_on, start_on, named, ready, releases, reserves, Keeps}
use Rattle.frame.specs.Prelude.{CoreView, IsAdded, with_history, counts_after, seat_behind, telling, told_in}
use Rattle.frame.specs.inner.Core.{ready_of}
use Rattle.frame.specs.inner.Effects.{asks_before}
use Rattle.condition_queue.proofs.Movable.{joined_next, movable, keeps_next}
use Rattle.frame.proofs.Telling.{table_behind}
use Rattle.frame.proofs.Naming.{named_below, named_now}
use Rattle.frame.proofs.Stepping.{Grown, Names, Needs, Next, next_seen, within, needs, refused, grown, is_added, stands_next, calls_next, exclusive_next, history_of, shared_next}
use Rattle.frame.proofs.machine.Core.write.Goals as goal
use Rattle.frame.proofs.machine.Core.write.Goals.{After-owed-was_owed, After-owed_behind-owed, After-whom_named-name, After-tell}

-- what is known of the entry before it is added
next : (g : _) (c : After-owed-was_owed g) → Next c.self.inside.header
    (base_on c.self.inside.header c.self.inside.history) c.self.inside.history.entries c.args.entry
next g c =
    next_seen c.self.inside.header c.self.inside.history c.args.entry _ c.self.invariant c.self.view_is
    c.requires.next

-- the hooks' object is that of the header
same : (g : _) (c : After-owed-was_owed g) → c.object-object.result ≡ c.self.inside.header.object
same g c = c.object-object.ensures ∙ sym (ap (λ (v : CoreView). v.header.object) c.self.view_is)

-- the room that it needs
needed : (g : _) (c : After-owed_behind-owed g) → c.object-object.result ≡ c.self.inside.header.object →
    Next c.self.inside.header
    (base_on c.self.inside.header c.self.inside.history) c.self.inside.history.entries c.args.entry →
    Needs c.self.inside.header
    (base_on c.self.inside.header c.self.inside.history) c.self.inside.history.entries c.args.entry
    c.owed-was_owed.result c.owed_behind-owed.result
needed g c object n =
    let a = c.self.inside in
    let e = c.args.entry in
    needs a.header (base_on a.header a.history) a.history.entries e c.owed-was_owed.result
    c.owed_behind-owed.result n (c.owed-was_owed.ensures.value ∙ c.self.invariant.owed)
    (subst (λ o. c.owed_behind-owed.result ≡ c.owed-was_owed.result + reserves o e - releases o e) object
    c.owed_behind-owed.ensures)

-- the table
tabled : (g : _) (c : After-tell g) → c.object-object.result ≡ c.self.inside.header.object →
    c.tell.new.seats.items
    ≡ table_behind c.self.inside.header.object c.args.entry c.whom_named-name.result c.self.inside.seats.items
tabled g c object =
    let a = c.self.inside in
    let e = c.args.entry in
    let name = c.whom_named-name.result in
    subst (λ o. c.tell.new.seats.items ≡ table_behind o e name a.seats.items) object
    (c.tell.ensures ∙ ap (telling name) c.update.ensures)

-- line and sleepers follow it
waiting : (g : _) (c : After-whom_named-name g) → Keeps (start_on c.self.inside.header c.self.inside.history)
    (c.args.entry ∷ c.self.inside.history.entries) c.move_waiters.new.queue c.move_waiters.new.waiters
waiting g c =
    let a = c.self.inside in
    let moved = c.move_waiters.ensures in
    keeps_next (start_on a.header a.history) a.history.entries c.args.entry a.queue c.move_waiters.new.queue
    a.waiters c.move_waiters.new.waiters c.self.invariant.waiting moved.line moved.sleepers moved.places
    moved.beds moved.conditions

-- what the history is then
grows : (g : _) (c : After-whom_named-name g) → Needs c.self.inside.header
    (base_on c.self.inside.header c.self.inside.history) c.self.inside.history.entries c.args.entry
    c.owed-was_owed.result c.owed_behind-owed.result →
    Grown c.self.inside.header c.args.entry c.self.inside.history c.add.new.self
grows g c m =
    let a = c.self.inside in
    let was = c.owed-was_owed.ensures in
    let roomy = c.in_ok-make_room.ensures in
    grown a.header c.args.entry a.history c.make_room.new.self c.add.new.self _ _ _ m.owed was.value
    c.saturating_sub-needed.ensures roomy.within_cap roomy.same c.self.invariant.cap c.add.ensures
    was.reserved roomy.reserved roomy.places

-- whom it names
names : (g : _) (c : After-whom_named-name g) → Next c.self.inside.header
    (base_on c.self.inside.header c.self.inside.history) c.self.inside.history.entries c.args.entry →
    Names c.self.inside.header c.self.inside.history c.args.entry c.whom_named-name.result
names g c n =
    let a = c.self.inside in
    let k = a.header in
    let b = base_on k a.history in
    let h = a.history.entries in
    let e = c.args.entry in
    let s = c.self.invariant in
    let before : c.args.before ≡ cond (asks_before e.word) (ready (start_on k a.history) h) None =
    subst (λ (v : CoreView). c.args.before ≡ cond (asks_before e.word) (ready_of v) None) (sym c.self.view_is)
    c.requires.before in
    let counted = counts (start_on k a.history) h in
    let changed = c.change-may_name.ensures.changed counted s.hooks n.allowed in
    let is : c.whom_named-name.result ≡ named (start_on k a.history) h e =
    named_now k b h e c.change-may_name.result c.args.before c.whom_named-name.result
    c.move_waiters.new.queue.arrivals s.range n before
    (c.whom_named-name.ensures (counts_after e.word counted e) changed) (waiting g c).line
    (λ f. c.change-may_name.ensures.nobody f counted s.hooks n.allowed)
    c.change-may_name.ensures.word in
    record { is = is; below = named_below k b h e c.whom_named-name.result s.range n is }

pub owed_behind-owed-requires-clause-owed : goal.owed_behind-owed-requires-clause-owed
owed_behind-owed-requires-clause-owed g c =
    let a = c.self.inside in
    let e = c.args.entry in
    let at = (goal.at.owed_behind-owed-requires-clause-owed g c).After-owed-was_owed in
    subst (λ o. releases o e ≤ c.owed-was_owed.result + reserves o e) (sym (same g at))
    (within a.header (base_on a.header a.history) a.history.entries e c.owed-was_owed.result (next g at)
    (c.owed-was_owed.ensures.value ∙ c.self.invariant.owed))

pub returns-in_err-make_room-clause-added : goal.returns-in_err-make_room-clause-added
returns-in_err-make_room-clause-added g c =
    let at = goal.at.returns-in_err-make_room-clause-added g c in
    let m = needed g at.After-owed_behind-owed (same g at.After-owed-was_owed) (next g at.After-owed-was_owed) in
    let a = c.self.inside in
    let s = c.self.invariant in
    let was = c.owed-was_owed.ensures in
    let new = c.make_room.new.self in
    let full = c.in_err-make_room.ensures in
    let fault = c.in_err-make_room.field-0.0 in
    let err : Fault → Result (Option ℕ) Fault = λ f. Err f in
    let after : CoreView = with_history a.header new (told_in a.seats.items) in
    let told : err fault ≡ c.from_residual.result = search rules in
    subst (λ r. IsAdded c.args.self.now c.args.entry r after) told
    (subst (λ w. IsAdded w c.args.entry (err fault) after) c.self.view_is
    (refused a.header c.args.entry fault a.history new (told_in a.seats.items) c.owed-was_owed.result
    c.owed_behind-owed.result c.saturating_sub-needed.result s.based m s.cap was.value was.within_cap
    was.reserved c.saturating_sub-needed.ensures full.full full.faults full.memory full.err))

pub change-may_name-requires : goal.change-may_name-requires
change-may_name-requires g c =
    let a = c.self.inside in
    let n = next g (goal.at.change-may_name-requires g c).After-owed-was_owed in
    (counts (start_on a.header a.history) a.history.entries, c.self.invariant.hooks, n.allowed)

pub move_waiters-requires : goal.move_waiters-requires
move_waiters-requires g c =
    let a = c.self.inside in
    let b = base_on a.header a.history in
    let h = a.history.entries in
    let s = c.self.invariant in
    let n = next g (goal.at.move_waiters-requires g c).After-owed-was_owed in
    let few : b.entries + length h ≤ 2000000000000000 =
    let r = s.room in let k = s.range.cap in let t = s.may_fold.can.good.entries in omega (arith, r, k, t) in
    record {
      movable =
          movable (start_on a.header a.history) h c.args.entry a.queue a.waiters (b.entries + length h)
          s.waiting s.joins few (history_of s) n.can.seated.0 n.known;
    }

pub update-requires-clause-calls : goal.update-requires-clause-calls
update-requires-clause-calls g c =
    let a = c.self.inside in
    let n = next g (goal.at.update-requires-clause-calls g c).After-owed-was_owed in
    calls_next a.header a.history c.args.entry.seat c.self.invariant n.seat

pub update-requires-clause-exclusive : goal.update-requires-clause-exclusive
update-requires-clause-exclusive g c =
    let a = c.self.inside in
    let e = c.args.entry in
    let at = (goal.at.update-requires-clause-exclusive g c).After-owed-was_owed in
    let n = next g at in
    subst (λ o. (seat_behind o e a.seats.items).exclusive < 2 ^ 32) (sym (same g at))
    (exclusive_next a.header (base_on a.header a.history) a.history.entries e _ n
    (c.self.invariant.tabled e.seat n.seat))

pub update-requires-clause-shared : goal.update-requires-clause-shared
update-requires-clause-shared g c =
    let a = c.self.inside in
    let s = c.self.invariant in
    let e = c.args.entry in
    let at = (goal.at.update-requires-clause-shared g c).After-owed-was_owed in
    let n = next g at in
    let short : length a.history.entries ≤ a.header.cap = let r = s.room in omega (arith, r) in
    subst (λ o. (seat_behind o e a.seats.items).shared < 2 ^ 128) (sym (same g at))
    (shared_next a.header (base_on a.header a.history) a.history.entries e _ s.range n short
    (s.tabled e.seat n.seat))

pub tell-requires : goal.tell-requires
tell-requires g c =
    let at = goal.at.tell-requires g c in
    let a = c.self.inside in
    let len : length c.update.new.seats.items ≡ a.header.seats =
    ap length c.update.ensures ∙ length-set a.seats.items c.args.entry.seat _ ∙ c.self.invariant.seats in
    subst (λ m. IfSome c.whom_named-name.result (λ j. j < m)) (sym len)
    (names g at.After-whom_named-name (next g at.After-owed-was_owed)).below

pub invariant_of-self-2 : goal.invariant_of-self-2
invariant_of-self-2 g c =
    let at = goal.at.invariant_of-self-2 g c in
    let a = c.self.inside in
    let b = base_on a.header a.history in
    let h = a.history.entries in
    let e = c.args.entry in
    let s = c.self.invariant in
    let n = next g at.After-owed-was_owed in
    let object = same g at.After-owed-was_owed in
    let changed =
    c.change-may_name.ensures.changed (counts (start_on a.header a.history) h) s.hooks n.allowed in
    let joined =
    joined_next (start_on a.header a.history) h e a.queue c.move_waiters.new.queue a.waiters
    (b.entries + length h) s.waiting s.joins (history_of s) c.move_waiters.ensures.joined in
    stands_next (g.H.Hooks.agrees a.hooks) (g.H.Hooks.agrees c.change-may_name.new.hooks) a.header
    a.history c.add.new.self a.queue c.move_waiters.new.queue a.waiters c.move_waiters.new.waiters
    a.seats.items c.tell.new.seats.items e c.whom_named-name.result s n changed
    (waiting g at.After-whom_named-name) joined (names g at.After-whom_named-name n)
    (tabled g at.After-tell object)
    (grows g at.After-whom_named-name (needed g at.After-owed_behind-owed object n))

pub returns-clause-added : goal.returns-clause-added
returns-clause-added g c =
    let at = goal.at.returns-clause-added g c in
    let a = c.self.inside in
    let e = c.args.entry in
    let name = c.whom_named-name.result in
    let table = c.tell.new.seats.items in
    let n = next g at.After-owed-was_owed in
    let object = same g at.After-owed-was_owed in
    let P : CoreView → Type 0 =
    λ w. IsAdded w e (Ok name) (with_history a.header c.add.new.self (told_in table)) in
    subst P c.self.view_is
    (is_added (g.H.Hooks.agrees a.hooks) a.header e name a.history c.add.new.self a.queue a.waiters
    a.seats.items table c.self.invariant n
    (grows g at.After-whom_named-name (needed g at.After-owed_behind-owed object n))
    (names g at.After-whom_named-name n) (tabled g at.After-tell object))

pub returns-clause-names : goal.returns-clause-names
returns-clause-names g c =
    let at = goal.at.returns-clause-names g c in
    subst (λ (v : CoreView). IfSome c.whom_named-name.result (λ j. j < v.header.seats)) c.self.view_is
    (names g at.After-whom_named-name (next g at.After-owed-was_owed)).below
