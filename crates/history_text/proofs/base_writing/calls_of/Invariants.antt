use Rattle.std.proofs.Common.{◌≡◌, ◌+◌, ◌≤◌, length, drop}
use Rattle.history_text.specs.BaseText.{calls_sum}
use Rattle.history_text.proofs.base_writing.calls_of.Given as goal

abbrev pub invariant-loop-has : goal.invariant-loop-has
invariant-loop-has l = record {
  sum : l.calls + calls_sum (drop l.has-index l.seats) ≡ calls_sum l.seats;
  inside : l.has-index ≤ length l.seats;
}
