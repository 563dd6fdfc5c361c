use Rattle.std.proofs.Common.{◌≡◌, arith}
use Rattle.driver.proofs.EntryLines.{lines_alone}
use Rattle.driver.proofs.answers.Answers.write.Goals as goal

pub returns-in-History-clause-writes : goal.returns-in-History-clause-writes
returns-in-History-clause-writes g c =
    let none : c.args.self.now.base.entries ≡ 0 = omega (arith, c.folded.ensures.value, c.if-folded-eq0.true) in
    rw (c.in-History.is, ← lines_alone c.args.self.now c.folded.ensures.header none)
    c.write_lines-in-History.ensures.writes

pub returns-in-History-2-clause-writes : goal.returns-in-History-2-clause-writes
returns-in-History-2-clause-writes g c = rw c.in-History.is c.write_left.ensures.writes
