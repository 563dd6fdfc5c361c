use Rattle.std.proofs.Common.{arith, rules, string_bytes}
use Rattle.script.specs.Script.{IsObject}
use Rattle.script.proofs.Firsts.{all_objects, object_at, one_more_object}
use Rattle.script.proofs.building.bad_object.Goals as goal

pub loop-place-preserved : goal.loop-place-preserved
loop-place-preserved c =
    let good : IsObject c.args.threads (string_bytes c.in-Some.name.now, c.in-Some.header.now) =
    search rules in
    one_more_object (IsObject c.args.threads) c.args.objects.now.entries c.loop-place.place _
    c.in-Some.ensures.entry c.loop-place.invariant good

pub returns-clause-none : goal.returns-clause-none
returns-clause-none c =
    all_objects (IsObject c.args.threads) c.args.objects.now.entries c.loop-place.place
    (omega (arith, c.loop-place-test.false, c.len-place-end.ensures.len)) c.loop-place.invariant

pub returns-then-not-is_object-clause-found : goal.returns-then-not-is_object-clause-found
returns-then-not-is_object-clause-found c = record {
  before = c.loop-place.invariant;
  bad = (string_bytes c.in-Some.name.now, c.in-Some.header.now);
  here = object_at c.args.objects.now.entries c.loop-place.place _ c.in-Some.ensures.entry;
  is_bad = search rules;
}
