use Rattle.std.proofs.Common.{◌≡◌, ℕ, List, false, reverse}
use Rattle.driver.specs.Prelude.{IsGathered}
use Rattle.driver.proofs.EntryLines.{AreTold}
use Rattle.driver.proofs.answers.put_entries.Given as goal

abbrev pub invariant-loop-place : goal.invariant-loop-place
invariant-loop-place g l = record {
  going : g.W.Sink.failed l.writer ≡ false;
  added : (so_far : List ℕ) × IsGathered (g.W.Sink.held l.fn.writer) l.fn.lines.bytes (g.W.Sink.held l.writer)
      l.lines.bytes so_far × AreTold (reverse l.history.entries) l.first l.place so_far;
}
