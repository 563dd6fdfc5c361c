use Rattle.std.proofs.Common.{[], map, take}
use Rattle.serde_json.specs.View.{view}
use Rattle.script.specs.Prelude.{Say, SaysCall, named}
use Rattle.script.proofs.workers.calls_of.Given as goal

abbrev pub invariant-loop-place : goal.invariant-loop-place
invariant-loop-place l = record {
  said : Say (SaysCall (named l.objects.entries) l.threads) [] (take l.place (map view l.values))
      l.calls.items;
}
