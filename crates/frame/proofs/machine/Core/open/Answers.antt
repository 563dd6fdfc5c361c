use Rattle.std.proofs.Common.{◌≡◌, [], replicate, ap, ◌∙◌, sym, subst, rules}
use Rattle.frame.specs.Below.{Header, Object, opening_base, MayFold, IsInRange}
use Rattle.frame.specs.Seat.{no_holds}
use Rattle.frame.proofs.Opening.{opening_stands}
use Rattle.frame.proofs.Telling.{marks_free, marks_seen}
use Rattle.frame.proofs.machine.Core.open.Goals as goal

pub invariant_of-result : goal.invariant_of-result
invariant_of-result g c =
    let k : Header =
    record {
      object = g.H.Hooks.object_of c.args.hooks;
      seats = c.args.seats;
      conditions = c.args.conditions;
      cap = c.args.cap;
    } in
    let of : Object → Header =
    λ o. record { object = o; seats = c.args.seats; conditions = c.args.conditions; cap = c.args.cap } in
    let object : c.object.result ≡ g.H.Hooks.object_of c.args.hooks = c.object.ensures in
    let opened : c.in_ok-base.base ≡ opening_base k =
    c.in_ok-base.ensures.opened ∙ ap (λ o. opening_base (of o)) object in
    let may : MayFold c.in_ok-base.base [] =
    c.in_ok-base.ensures.may_fold (subst (λ o. IsInRange (of o)) (sym object) c.requires.range) in
    let queue = c.in_ok-queue.queue in
    let waiters = c.in_ok-waiters.waiters in
    let table = c.in_ok-table.table.items in
    let filled : table ≡ replicate c.args.seats c.free.result =
    c.in_ok-table.ensures.items_if_clones_equal (λ y q. search rules) in
    let free : table ≡ replicate c.args.seats no_holds =
    filled ∙ ap (replicate c.args.seats) c.free.ensures in
    rw c.object.ensures
    (opening_stands (g.H.Hooks.agrees c.args.hooks) k c.in_ok-base.base c.open_on.result queue waiters table
    c.requires.range opened may
    (g.met.H.Hooks.opens c.args.hooks c.args.seats c.requires.opened) c.open_on.ensures
    c.in_ok-queue.ensures.empty c.in_ok-queue.ensures.seats c.in_ok-queue.ensures.joined
    c.in_ok-waiters.ensures.empty c.in_ok-waiters.ensures.conditions c.in_ok-waiters.ensures.seats free)

pub returns-clause-told : goal.returns-clause-told
returns-clause-told g c =
    let k : Header =
    record {
      object = c.object.result;
      seats = c.args.seats;
      conditions = c.args.conditions;
      cap = c.args.cap;
    } in
    let table = c.in_ok-table.table.items in
    let filled : table ≡ replicate c.args.seats c.free.result =
    c.in_ok-table.ensures.items_if_clones_equal (λ y q. search rules) in
    let free : table ≡ replicate c.args.seats no_holds =
    filled ∙ ap (replicate c.args.seats) c.free.ensures in
    marks_seen k c.open_on.result table ∙ marks_free c.args.seats table free
