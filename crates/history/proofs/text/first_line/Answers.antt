use Rattle.history.proofs.Breaks.{no_break, first_break}
use Rattle.history.proofs.text.first_line.Goals as goal

pub returns-in_err-at : goal.returns-in_err-at
returns-in_err-at c = rw c.from_residual.ensures (no_break c.args.text.now c.in_err-at.ensures)

pub returns : goal.returns
returns c = first_break c.args.text.now c.in_ok-at.at c.in_ok-at.ensures.0 c.in_ok-at.ensures.1
