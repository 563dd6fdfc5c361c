use Rattle.std.proofs.Common.{◌≡◌, ◌+◌, drop, vec_len, vec_capacity}
use Rattle.history.proofs.base_parts.drop_front.Given as goal

abbrev pub invariant-loop : goal.invariant-loop
invariant-loop l =
    record {
      items : l.asleep.items ≡ drop l.counter l.initial.asleep.items;
      len : vec_len l.asleep + l.counter ≡ vec_len l.initial.asleep;
      capacity : vec_capacity l.asleep ≡ vec_capacity l.initial.asleep;
    }
