use Rattle.std.proofs.Common.{◌≡◌, ◌++◌, [], false, take}
use Rattle.std.specs.List.{concat}
use Rattle.std.specs.Io.KnownBytes.{Appends}
use Rattle.run_text.proofs.report_text.RunText.write.Given as goal

abbrev pub invariant-loop-part : goal.invariant-loop-part
invariant-loop-part g l = record {
  going : g.W.Sink.failed l.writer ≡ false;
  none : l.lines.bytes ≡ [];
  written : Appends (g.W.Sink.held l.fn.writer) (g.W.Sink.held l.writer)
      (concat (take l.part-index l.part-items));
  whole : l.fn.self ≡ concat l.part-items ++ l.last.items;
}
