use Rattle.workers.proofs.Objects.{header_there, object_there}
use Rattle.workers.proofs.run.header_at.Goals as goal

pub returns-clause-header : goal.returns-clause-header
returns-clause-header c =
    header_there c.args.script.now c.objects.result.now.entries c.args.place _ c.objects.ensures.value
    c.in-Some.ensures.entry

pub returns-clause-range : goal.returns-clause-range
returns-clause-range c =
    let is =
    object_there c.args.script.now c.objects.result.now.entries c.args.place _ c.objects.ensures.value
    c.objects.ensures.limits c.in-Some.ensures.entry in
    is.in_range

pub returns-clause-seats : goal.returns-clause-seats
returns-clause-seats c =
    let is =
    object_there c.args.script.now c.objects.result.now.entries c.args.place _ c.objects.ensures.value
    c.objects.ensures.limits c.in-Some.ensures.entry in
    is.seats
