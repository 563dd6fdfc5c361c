use Rattle.streams.proofs.PiecedLines.{still}
use Rattle.streams.proofs.window.Window.read_line.Goals as goal

pub returns-clause-ahead : goal.returns-clause-ahead
returns-clause-ahead g c =
    still c.args.self.now.bytes c.loop.self.bytes (g.R.Source.left c.args.reader.now)
    (g.R.Source.left c.loop.reader) c.loop.invariant.front
