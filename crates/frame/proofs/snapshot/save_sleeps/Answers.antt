use Rattle.std.proofs.Common.{set, ap, ◌∙◌, arith, rules}
use Rattle.std.proofs.lemmas.List.Edits.{map_over_more}
use Rattle.frame.specs.inner.Snapshot.{with_sleep}
use Rattle.frame.proofs.snapshot.save_sleeps.Goals as goal

pub loop-place-preserved : goal.loop-place-preserved
loop-place-preserved c =
    record {
      items = ap (set c.loop-place.line.items c.loop-place.place) c.with_sleep-standing.ensures
          ∙ map_over_more (with_sleep c.args.seats.now) c.args.line.now.items c.loop-place.line.items
          c.loop-place.place _ (omega (arith, c.loop-place-test.true, c.len-place-end.ensures))
          c.loop-place.invariant.items c.index.ensures;
      capacity = search rules;
    }
