use Rattle.std.proofs.Common.{sym, ◌∙◌}
use Rattle.std.proofs.lemmas.List.{take_rest}
use Rattle.streams.proofs.PiecedLines.{goes_on, none_of}
use Rattle.streams.proofs.window.Window.read_piece.Goals as goal

pub returns-clause-more : goal.returns-clause-more
returns-clause-more g c = λ no first old front.
    let whole =
    none_of c.first_line.result _ _ c.first_line.ensures (sym c.is_some.ensures ∙ c.if-is_some.false) in
    let here = rw (take_rest, c.bytes-bytes.ensures.bytes) at whole in
    goes_on old c.args.self.now.bytes c.read_more.new.self.bytes c.keep_front.new.self.bytes first
    (g.R.Source.left c.args.reader.now) (g.R.Source.left c.read_more.new.reader) c.in_ok-n.n
    c.in_ok-n.ensures.grows here c.keep_front.ensures.bytes front
