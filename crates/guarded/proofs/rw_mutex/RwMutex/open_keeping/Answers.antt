use Rattle.std.proofs.Common.{rules}
use Rattle.guarded.proofs.Calling.{none_hold}
use Rattle.guarded.proofs.rw_mutex.RwMutex.open_keeping.Goals as goal

pub returns-in-Ok-open_with-clause-opened : goal.returns-in-Ok-open_with-clause-opened
returns-in-Ok-open_with-clause-opened g c =
    let opened = c.in-Ok-open_with.ensures in
    record {
      header = search rules;
      when_full = search rules;
      passes = opened.passes;
      own = opened.own;
      free = none_hold c.in-Ok-open_with.monitor c.args.seats _ opened.passes;
    }
