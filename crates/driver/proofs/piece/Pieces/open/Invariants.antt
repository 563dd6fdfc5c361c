use Rattle.driver.specs.inner.Codes.{AreParts}
use Rattle.driver.proofs.piece.Pieces.open.Given as goal

abbrev pub invariant-loop-number : goal.invariant-loop-number
invariant-loop-number l = AreParts l.number l.rows.items
