use Rattle.std.proofs.Common.{◌≡◌, ◌≤◌, ℕ, List, false, drop, length}
use Rattle.driver.specs.Prelude.{IsGathered}
use Rattle.driver.specs.inner.Codes.{lines_by}
use Rattle.driver.proofs.Taping.{Left}
use Rattle.driver.proofs.tape.put_codes.Given as goal

abbrev pub invariant-loop-code : goal.invariant-loop-code
invariant-loop-code g l = record {
  going : g.W.Sink.failed l.writer ≡ false;
  few : l.number ≤ l.code-index;
  within : l.kept ≤ length l.text;
  added : (so_far : List ℕ) × IsGathered (g.W.Sink.held l.fn.writer) l.fn.lines.bytes (g.W.Sink.held l.writer)
      l.lines.bytes so_far
      × Left l.number (drop l.code-index l.codes) (drop l.kept l.text) (lines_by 0 l.codes l.text) so_far;
}
