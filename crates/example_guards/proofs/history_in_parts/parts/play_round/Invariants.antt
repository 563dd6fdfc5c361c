use Rattle.std.proofs.Common.{◌≡◌, ◌≤◌, ◌+◌, length}
use Rattle.example_guards.specs.Parts.{Prints, made}
use Rattle.example_guards.proofs.history_in_parts.parts.play_round.Given as goal

-- each step so far has made an entry
abbrev pub invariant-loop-seat : goal.invariant-loop-seat
invariant-loop-seat g l =
    record {
      header : l.core.header ≡ l.fn.core.header;
      within : l.seat-index ≤ length l.round;
      made : made l.core ≡ made l.fn.core + l.seat-index;
      printed : Prints l.fn.core.base (g.W.Write.contents l.fn.out) l.core.base (g.W.Write.contents l.out);
    }
