use Rattle.std.proofs.Common.{[], map, take, length}
use Rattle.serde_json.specs.View.{view}
use Rattle.script.specs.Prelude.{Say, SaysWorker, named}
use Rattle.script.proofs.workers.workers_of.Given as goal

abbrev pub invariant-loop-thread : goal.invariant-loop-thread
invariant-loop-thread l = record {
  said : Say (SaysWorker (named l.objects.entries) (length l.values)) [] (take l.thread (map view l.values))
      l.workers.items;
}
