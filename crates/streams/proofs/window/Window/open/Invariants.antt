use Rattle.std.proofs.Common.{◌≡◌}
use Rattle.std.specs.Vec.{vec_capacity, vec_len}
use Rattle.streams.specs.declared.limits.TheConstants.{ROOM}
use Rattle.streams.proofs.window.Window.open.Given as goal

abbrev pub invariant-loop : goal.invariant-loop
invariant-loop l = record { filled : vec_len l.bytes ≡ l.counter; places : vec_capacity l.bytes ≡ ROOM }
