use Rattle.std.proofs.Common.{◌≡◌, ◌+◌, ◌≤◌, length}
use Rattle.picture.specs.Reading.{lines_in, reading, reading_from}
use Rattle.picture.proofs.naming.reading.read_names.Given as goal

abbrev pub invariant-lines : goal.invariant-lines
invariant-lines l =
    record {
      said : reading_from l.names l.number (lines_in l.rest) ≡ reading l.text;
      count : l.number + length l.rest ≤ length l.text + 1;
    }

abbrev pub decreases-lines : goal.decreases-lines
decreases-lines l = length l.rest
