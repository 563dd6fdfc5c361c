use Rattle.std.proofs.Common.{◌≡◌, ◌*◌, ◌+◌}
use Rattle.frame.specs.Core.{header_of}
use Rattle.history.specs.Base.{opening_base}
use Rattle.history.specs.declared.header.Object.TheVariants.{Lock}
use Rattle.history.specs.declared.header.Policy.TheVariants.{Fair}
use Rattle.example_guards.specs.Parts.{Prints, made}
use Rattle.example_guards.proofs.history_in_parts.parts.play_rounds.Given as goal

-- the rounds so far have made five entries each
abbrev pub invariant-loop : goal.invariant-loop
invariant-loop g l =
    record {
      header : l.core.header ≡ header_of (Lock Fair) 2 0 (l.fn.entries + 8);
      made : made l.core ≡ 5 * l.counter;
      printed :
          Prints (opening_base (header_of (Lock Fair) 2 0 (l.fn.entries + 8))) (g.W.Write.contents l.fn.out)
          l.core.base (g.W.Write.contents l.out);
    }
