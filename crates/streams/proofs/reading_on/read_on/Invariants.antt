use Rattle.std.proofs.Common.{◌≡◌, false}
use Rattle.streams.proofs.Pieces.{HasRead}
use Rattle.streams.proofs.reading_on.read_on.Given as goal

abbrev pub invariant-loop : goal.invariant-loop
invariant-loop g l = record {
  going : g.R.Source.failed l.reader ≡ false;
  read : HasRead (g.R.Source.left l.fn.reader) (g.R.Source.left l.reader) l.counter;
}
