use Rattle.std.proofs.Common.{◌≡◌, ◌-◌, false}
use Rattle.driver.proofs.Judging.{Reading}
use Rattle.driver.proofs.judged.follow_all.Given as goal

abbrev pub invariant-loop-following : goal.invariant-loop-following
invariant-loop-following g l = record {
  going : g.R.Source.failed l.reader ≡ false;
  reading : Reading l.fn.entries (g.R.Source.left l.fn.reader) l.entries (g.R.Source.left l.reader) l.fn.telling
      l.following;
}

abbrev pub decreases-loop-following : goal.decreases-loop-following
decreases-loop-following g l = l.fn.entries.header.cap - l.entries.place.count
