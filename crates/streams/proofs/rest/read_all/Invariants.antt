use Rattle.std.proofs.Common.{◌≡◌, false}
use Rattle.std.specs.Io.KnownBytes.{Consumes}
use Rattle.streams.proofs.rest.read_all.Given as goal

abbrev pub invariant-loop : goal.invariant-loop
invariant-loop g l = record {
  going : g.R.Source.failed l.reader ≡ false;
  read : Consumes (g.R.Source.left l.fn.reader) (g.R.Source.left l.reader) l.bytes.items;
}
