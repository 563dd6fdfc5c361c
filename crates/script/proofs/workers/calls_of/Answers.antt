use Rattle.std.proofs.Common.{List, [], ◌∷◌, ◌++◌, map, take, length, sym, subst, refl, ◌+◌}
use Rattle.std.proofs.lemmas.Option.{slice_get_read}
use Rattle.serde_json.specs.View.{view}
use Rattle.script.specs.Prelude.{SaysNoCall, Say, SaysCall, named, Call}
use Rattle.script.proofs.SayingLemmas.{say_next, stops_here}
use Rattle.script.proofs.workers.calls_of.Goals as goal

pub returns-in_default-clause-err : goal.returns-in_default-clause-err
returns-in_default-clause-err c =
    let values = c.args.values.now in
    let value = c.index-values-place.result in
    let objects = named c.args.objects.now.entries in
    let calls = c.loop-place.calls.items in
    let here = slice_get_read values (length values) c.loop-place.place value refl c.loop-place-test.true
    c.index-values-place.is in (
      refl,
      stops_here (SaysCall objects c.args.threads) (SaysNoCall objects c.args.threads) values
          c.loop-place.place value
          calls here c.loop-place.invariant.said (c.in_default.ensures.none calls),
    )

pub loop-place-preserved : goal.loop-place-preserved
loop-place-preserved c =
    let values = c.args.values.now in
    let value = c.index-values-place.result in
    let objects = named c.args.objects.now.entries in
    let calls = c.loop-place.calls.items in
    let here = slice_get_read values (length values) c.loop-place.place value refl c.loop-place-test.true
    c.index-values-place.is in
    record {
      said = subst (λ (cs : List Call). Say (SaysCall objects c.args.threads) []
          (take (c.loop-place.place + 1) (map view values)) cs) (sym c.in_ok-push.ensures.items)
          (say_next (SaysCall objects c.args.threads) values c.loop-place.place value calls c.in-Some.call
          here
          c.loop-place.invariant.said (c.in-Some.ensures.found calls));
    }
