use Rattle.std.proofs.Common.{◌≡◌, ◌≤◌, length, take, vec_len, vec_capacity}
use Rattle.frame.specs.Acts.{AreDone}
use Rattle.frame.proofs.acts.run_acts.Given as goal

-- the acts so far are done, and each answer has a place
abbrev pub invariant-loop-act : goal.invariant-loop-act
invariant-loop-act g l =
    record {
      done : AreDone l.fn.core (take l.act-index l.acts) l.done.items l.core;
      header : l.core.header ≡ l.fn.core.header;
      counted : vec_len l.done ≡ l.act-index;
      room : length l.acts ≤ vec_capacity l.done;
    }
