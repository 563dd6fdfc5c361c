use Rattle.driver.proofs.Coding.{put_after}
use Rattle.driver.proofs.piece.Pieces.put_code.Goals as goal

pub returns-clause-line : goal.returns-clause-line
returns-clause-line c =
    put_after _ _ _ _ _ _ _ _ _ c.put_number-seat_at.ensures.bytes
    (rw c.from.ensures at c.put-words_at.ensures.bytes) (rw c.from-2.ensures at c.put-end_at.ensures.bytes)
    (rw c.from-3.ensures at c.put.ensures.bytes)
