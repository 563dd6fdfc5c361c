use Rattle.std.proofs.Common.{rules, ◌≡◌, ◌∷◌, arith, inr}
use Rattle.std.proofs.lemmas.List.{nil_from_length}
use Rattle.workers.proofs.Settling.{all_ended, all_kept, first_fits, first_stops, room_for, settles_first, settles_more}
use Rattle.workers.proofs.run.settle.Goals as goal

pub loop-done-init : goal.loop-done-init
loop-done-init c =
    let same : c.into_iter-done-iterator.result.rest.items ≡ c.args.worked.items = search rules in
    settles_first c.args.worked.items c.args.columns.now.items c.into_iter-done-iterator.result.rest.items
    c.new-all.result same c.new-all.ensures c.requires.rows c.requires.few c.requires.workers

pub join-requires : goal.join-requires
join-requires c =
    let cut : c.loop-done.done-iterator.rest.items ≡ c.in-Some.done ∷ c.next.new.self.rest.items =
    search rules in
    let room = room_for c.args.worked.items c.args.columns.now.items c.loop-done.done-iterator.rest.items
    c.loop-done.columns.items c.loop-done.all c.in-Some.done c.next.new.self.rest.items c.in-Ok.kept cut
    c.in-Ok.is c.loop-done.invariant in
    omega (arith, room)

pub deal-requires : goal.deal-requires
deal-requires c =
    let cut : c.loop-done.done-iterator.rest.items ≡ c.in-Some.done ∷ c.next.new.self.rest.items =
    search rules in
    first_fits c.args.worked.items c.args.columns.now.items c.loop-done.done-iterator.rest.items
    c.loop-done.columns.items c.loop-done.all c.in-Some.done c.next.new.self.rest.items cut
    c.loop-done.invariant

pub returns-clause-ended : goal.returns-clause-ended
returns-clause-ended c =
    let out = c.in-None.ensures.steps.0 in
    let fits = c.loop-done.done-iterator.rest.ok.0 in
    let none = nil_from_length c.loop-done.done-iterator.rest.items (omega (arith, out, fits)) in
    all_ended c.args.worked.items c.args.columns.now.items c.loop-done.done-iterator.rest.items
    c.loop-done.columns.items c.loop-done.all none c.loop-done.invariant

pub returns-clause-kept : goal.returns-clause-kept
returns-clause-kept c =
    let out = c.in-None.ensures.steps.0 in
    let fits = c.loop-done.done-iterator.rest.ok.0 in
    let none = nil_from_length c.loop-done.done-iterator.rest.items (omega (arith, out, fits)) in
    all_kept c.args.worked.items c.args.columns.now.items c.loop-done.done-iterator.rest.items
    c.loop-done.columns.items c.loop-done.all none c.loop-done.invariant

pub returns-in-Err-clause-fault : goal.returns-in-Err-clause-fault
returns-in-Err-clause-fault c =
    let cut : c.loop-done.done-iterator.rest.items ≡ c.in-Some.done ∷ c.next.new.self.rest.items =
    search rules in
    inr (first_stops c.args.worked.items c.args.columns.now.items c.loop-done.done-iterator.rest.items
    c.loop-done.columns.items c.loop-done.all c.in-Some.done c.next.new.self.rest.items
    c.in-Err.fault cut
    c.in-Err.is c.loop-done.invariant)

pub loop-done-preserved : goal.loop-done-preserved
loop-done-preserved c =
    let cut : c.loop-done.done-iterator.rest.items ≡ c.in-Some.done ∷ c.next.new.self.rest.items =
    search rules in
    settles_more c.args.worked.items c.args.columns.now.items c.loop-done.done-iterator.rest.items
    c.loop-done.columns.items c.loop-done.all c.in-Some.done c.next.new.self.rest.items c.in-Ok.kept
    c.join.new.self c.deal.new.rows.items cut c.in-Ok.is c.in_ok-deal.ensures c.join.ensures.joins
    c.join.ensures.count c.loop-done.invariant
