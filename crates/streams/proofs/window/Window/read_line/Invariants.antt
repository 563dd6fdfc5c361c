use Rattle.std.proofs.Common.{◌≡◌, ◌≤◌, false, length}
use Rattle.history.specs.Text.{HasNoBreak}
use Rattle.streams.specs.declared.limits.TheConstants.{LINE_BYTES}
use Rattle.streams.specs.inner.Window.{IsFrontAhead}
use Rattle.streams.proofs.Pieces.{HasRead}
use Rattle.streams.proofs.window.Window.read_line.Given as goal

abbrev pub invariant-loop : goal.invariant-loop
invariant-loop g l = record {
  front : IsFrontAhead l.fn.self.bytes (g.R.Source.left l.fn.reader) l.self.bytes (g.R.Source.left l.reader);
  going : g.R.Source.failed l.reader ≡ false;
  few : length l.self.bytes ≤ LINE_BYTES;
  places : l.self.places ≡ l.fn.self.places;
  read : HasRead (g.R.Source.left l.fn.reader) (g.R.Source.left l.reader) l.counter;
  one_line : HasNoBreak l.fn.self.bytes;
}
