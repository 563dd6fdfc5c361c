use Rattle.std.proofs.Common.{List, [], ◌∷◌, ◌++◌, map, take, length, sym, subst, refl, ◌+◌}
use Rattle.std.proofs.lemmas.Option.{slice_get_read}
use Rattle.serde_json.specs.View.{view}
use Rattle.script.specs.Prelude.{Say, SaysWorker, named, WorkerView}
use Rattle.script.proofs.SayingLemmas.{say_next}
use Rattle.script.proofs.Scripts.{fault_passed}
use Rattle.script.proofs.workers.workers_of.Goals as goal

pub returns-in_err-worker_of-clause-err : goal.returns-in_err-worker_of-clause-err
returns-in_err-worker_of-clause-err c =
    let values = c.args.values.now in
    let value = c.index-values-thread.result in
    let here = slice_get_read values (length values) c.loop-thread.thread value refl c.loop-thread-test.true
    c.index-values-thread.is in
    fault_passed (named c.args.objects.now.entries) (length values) values c.loop-thread.thread value
    c.loop-thread.workers.items c.from_residual-in_err-worker_of.result c.in_err-worker_of.field-0.0
    c.from_residual-in_err-worker_of.ensures here c.loop-thread.invariant.said c.in_err-worker_of.ensures.err

pub loop-thread-preserved : goal.loop-thread-preserved
loop-thread-preserved c =
    let values = c.args.values.now in
    let value = c.index-values-thread.result in
    let says = SaysWorker (named c.args.objects.now.entries) (length values) in
    let workers = c.loop-thread.workers.items in
    let here = slice_get_read values (length values) c.loop-thread.thread value refl c.loop-thread-test.true
    c.index-values-thread.is in
    record {
      said = subst (λ (ws : List WorkerView). Say says [] (take (c.loop-thread.thread + 1) (map view
          values)) ws)
          (sym c.in_ok-push.ensures.items)
          (say_next says values c.loop-thread.thread value workers c.in_ok-worker_of.field-0 here
          c.loop-thread.invariant.said (c.in_ok-worker_of.ensures.ok workers));
    }
