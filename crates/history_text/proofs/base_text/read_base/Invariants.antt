use Rattle.std.proofs.Common.{◌≡◌, ◌≤◌, List, ℕ, [], length, map}
use Rattle.streams.specs.Reading.{Begins}
use Rattle.history_text.specs.Prelude.{history_form, Based}
use Rattle.history_text.proofs.base_text.read_base.Given as goal

abbrev pub invariant-loop-base : goal.invariant-loop-base
invariant-loop-base l = record {
  begins : (text : List ℕ) → Begins history_form text l.head [] l.ahead →
      Begins history_form text l.head (map Based l.base.lines) l.rest;
  header : l.base.header ≡ l.head.header;
  few : length l.rest ≤ length l.ahead;
}

abbrev pub decreases-loop-base : goal.decreases-loop-base
decreases-loop-base l = length l.rest
