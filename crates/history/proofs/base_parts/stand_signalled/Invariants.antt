use Rattle.std.proofs.Common.{◌≡◌, ◌+◌, ◌++◌, map, take, vec_len, vec_capacity}
use Rattle.history.specs.NextBase.{signalled_on}
use Rattle.history.proofs.base_parts.stand_signalled.Given as goal

abbrev pub invariant-loop-sleeper : goal.invariant-loop-sleeper
invariant-loop-sleeper l =
    record {
      items : l.line.items
          ≡ l.initial.line.items ++ map (signalled_on l.condition) (take l.sleeper-index l.woken);
      len : vec_len l.line ≡ vec_len l.initial.line + l.sleeper-index;
      capacity : vec_capacity l.line ≡ vec_capacity l.initial.line;
    }
