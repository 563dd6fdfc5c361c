use Rattle.std.proofs.Common.{length, arith, rules}
use Rattle.script.specs.Script.{IsWorker}
use Rattle.script.proofs.Firsts.{one_more, to_the_end}
use Rattle.script.proofs.building.fault_of_workers.Goals as goal

pub loop-thread-preserved : goal.loop-thread-preserved
loop-thread-preserved c =
    let worker = c.index-workers-thread.result in
    let good : IsWorker c.args.objects (length c.args.workers.now) worker = search rules in
    one_more (IsWorker c.args.objects (length c.args.workers.now)) c.args.workers.now c.loop-thread.thread
    worker c.loop-thread-test.true c.index-workers-thread.is c.loop-thread.invariant good

pub returns-clause-none : goal.returns-clause-none
returns-clause-none c =
    to_the_end (IsWorker c.args.objects (length c.args.workers.now)) c.args.workers.now c.loop-thread.thread
    (omega (arith, c.loop-thread-test.false)) c.loop-thread.invariant
