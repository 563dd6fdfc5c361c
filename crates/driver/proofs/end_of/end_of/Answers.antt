use Rattle.std.proofs.Common.{arith, refl, rules}
use Rattle.driver.proofs.ReadingAhead.{grown_keeps, more_left, same_keeps}
use Rattle.driver.proofs.end_of.end_of.Goals as goal

pub returns-then-branch-gt0-clause-after : goal.returns-then-branch-gt0-clause-after
returns-then-branch-gt0-clause-after g c = (
  refl,
  more_left c.args.window.now.bytes c.read_more.new.self.bytes (g.R.Source.left c.args.reader.now)
      (g.R.Source.left c.read_more.new.reader) c.in_ok-read_more.field-0 c.in_ok-read_more.ensures.grows
      c.if-branch-gt0.true,
)

pub returns-clause-ended : goal.returns-clause-ended
returns-clause-ended g c = search rules

pub returns-then-branch-gt0-clause-ended : goal.returns-then-branch-gt0-clause-ended
returns-then-branch-gt0-clause-ended g c = search rules

pub read_more-requires-clause-room : goal.read_more-requires-clause-room
read_more-requires-clause-room g c = omega (arith, c.requires.end, c.requires.room)

pub returns-in_err-read_more-clause-stays : goal.returns-in_err-read_more-clause-stays
returns-in_err-read_more-clause-stays g c =
    same_keeps c.args.window.now.bytes c.read_more.new.self.bytes (g.R.Source.left c.args.reader.now)
    (g.R.Source.left c.read_more.new.reader) c.in_err-read_more.ensures.kept.0
    c.in_err-read_more.ensures.kept.1

pub returns-then-branch-gt0-clause-stays : goal.returns-then-branch-gt0-clause-stays
returns-then-branch-gt0-clause-stays g c =
    grown_keeps c.args.window.now.bytes c.read_more.new.self.bytes (g.R.Source.left c.args.reader.now)
    (g.R.Source.left c.read_more.new.reader) c.in_ok-read_more.field-0 c.in_ok-read_more.ensures.grows

pub returns-clause-stays : goal.returns-clause-stays
returns-clause-stays g c =
    grown_keeps c.args.window.now.bytes c.read_more.new.self.bytes (g.R.Source.left c.args.reader.now)
    (g.R.Source.left c.read_more.new.reader) c.in_ok-read_more.field-0 c.in_ok-read_more.ensures.grows
