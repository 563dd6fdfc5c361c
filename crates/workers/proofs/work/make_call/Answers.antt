use Rattle.std.proofs.Common.{rules, ◌≡◌, ◌<◌, length, ap, subst, ◌∙◌, set}
use Rattle.workers.specs.Below.{IsCall, Call}
use Rattle.workers.proofs.Passing.{set_homes, acts_on, place_below}
use Rattle.workers.specs.Calls.{IsCalled, fault_of}
use Rattle.workers.specs.inner.Homes.{homes}
use Rattle.workers.proofs.work.make_call.Goals as goal

pub returns-in-On-clause-same : goal.returns-in-On-clause-same
returns-in-On-clause-same g c =
    let ps = c.passes.inside.list.items in
    let place : c.in-On.place < length c.args.shared.now.objects.items =
    subst (λ (z : Call). IsCall (length c.args.shared.now.objects.items) c.args.shared.now.parking z)
    c.in-On.is c.requires.call in
    let own = c.requires.own in
    let below : c.in-On.place < length ps =
    place_below ps c.args.shared.now.objects.items c.in-On.place (search rules) place in
    let here : ps ≡ c.args.passes.now = search rules in
    set_homes ps c.in-On.place _ c.act-reply.new.pass below c.index_mut-pass.ensures.value
    c.act-reply.ensures.called.same ∙ ap homes here

pub returns-in-On-clause-called : goal.returns-in-On-clause-called
returns-in-On-clause-called g c =
    let ps = c.passes.inside.list.items in
    let place : c.in-On.place < length c.args.shared.now.objects.items =
    subst (λ (z : Call). IsCall (length c.args.shared.now.objects.items) c.args.shared.now.parking z)
    c.in-On.is c.requires.call in
    let below : c.in-On.place < length ps =
    place_below ps c.args.shared.now.objects.items c.in-On.place (search rules) place in
    let here : ps ≡ c.args.passes.now = search rules in
    let count : fault_of c.act-reply.result ≡ c.fault.result = search rules in
    subst (λ z. IsCalled c.args.call z c.fault.result
    (set ps c.in-On.place c.act-reply.new.pass)) here
    (subst (λ z. IsCalled c.args.call ps z (set ps c.in-On.place c.act-reply.new.pass)) count
    (acts_on c.args.call c.in-On.place c.in-On.action ps _ c.act-reply.new.pass c.act-reply.result
    c.args.shared.now.parking c.in-On.is below c.index_mut-pass.ensures.value c.act-reply.ensures.acted
    c.act-reply.ensures.called.same c.act-reply.ensures.called.shows))
