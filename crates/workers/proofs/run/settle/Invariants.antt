use Rattle.workers.proofs.Settling.{Settles}
use Rattle.workers.proofs.run.settle.Given as goal

abbrev pub invariant-loop-done : goal.invariant-loop-done
invariant-loop-done l =
    Settles l.fn.worked.items l.fn.columns.items l.done-iterator.rest.items l.columns.items l.all
