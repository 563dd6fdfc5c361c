use Rattle.std.proofs.Common.{[], map, take}
use Rattle.serde_json.specs.View.{view}
use Rattle.script.specs.Prelude.{Say, SaysObject, named}
use Rattle.script.proofs.objects.objects_of.Given as goal

abbrev pub invariant-loop-place : goal.invariant-loop-place
invariant-loop-place l = record {
  said : Say (SaysObject l.threads) [] (take l.place (map view l.values)) (named l.objects.entries);
}
