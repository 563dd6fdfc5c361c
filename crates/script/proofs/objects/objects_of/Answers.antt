use Rattle.std.proofs.Common.{◌≡◌, List, [], ◌∷◌, ◌++◌, Some, map, take, slice_get, length, sym, subst, ap, ◌∙◌, refl, ◌+◌}
use Rattle.std.proofs.lemmas.Option.{slice_get_read}
use Rattle.serde_json.specs.View.{view}
use Rattle.script.specs.Prelude.{SaysNoObject, Say, SaysObject, Named, named}
use Rattle.script.proofs.ObjectLemmas.{inserted}
use Rattle.script.proofs.SayingLemmas.{say_next, stops_here}
use Rattle.script.proofs.objects.objects_of.Goals as goal

pub returns-in_default-clause-err : goal.returns-in_default-clause-err
returns-in_default-clause-err c =
    let values = c.args.values.now in
    let value = c.index-values-place.result in
    let here = slice_get_read values (length values) c.loop-place.place value refl c.loop-place-test.true
    c.index-values-place.is in
    stops_here (SaysObject c.args.threads) (SaysNoObject c.args.threads) values c.loop-place.place value
    (named c.loop-place.objects.entries) here c.loop-place.invariant.said c.in_default.ensures.none

pub loop-place-preserved : goal.loop-place-preserved
loop-place-preserved c =
    let values = c.args.values.now in
    let value = c.index-values-place.result in
    let here = slice_get_read values (length values) c.loop-place.place value refl c.loop-place-test.true
    c.index-values-place.is in
    let says = c.in-Some.ensures.found in
    let whole =
    ap named c.in_ok-insert.ensures.entries
    ∙ inserted c.loop-place.objects.entries c.in_ok-from_str.field-0 c.in-Some.header c.in-Some.name.now
    c.in_ok-from_str.ensures.ok says.new_name in record {
      said = subst (λ (os : List Named). Say (SaysObject c.args.threads) []
          (take (c.loop-place.place + 1) (map view values)) os) (sym whole)
          (say_next (SaysObject c.args.threads) values c.loop-place.place value (named
          c.loop-place.objects.entries)
          (c.in-Some.name.now, c.in-Some.header) here c.loop-place.invariant.said says);
    }
