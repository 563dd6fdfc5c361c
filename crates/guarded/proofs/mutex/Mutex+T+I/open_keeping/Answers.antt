use Rattle.std.proofs.Common.{rules}
use Rattle.guarded.proofs.Calling.{none_hold}
use Rattle.guarded.proofs.mutex.Mutex+T+I.open_keeping.Goals as goal

pub open_with-requires-clause-opened : goal.open_with-requires-clause-opened
open_with-requires-clause-opened g c = c.open-hooks.ensures.opened c.args.seats

pub returns-in-Ok-clause-opened : goal.returns-in-Ok-clause-opened
returns-in-Ok-clause-opened g c =
    let opened = c.in-Ok.ensures in
    record {
      header = search rules;
      when_full = search rules;
      passes = opened.passes;
      own = opened.own;
      free = none_hold c.in-Ok.monitor c.args.seats _ opened.passes;
    }
