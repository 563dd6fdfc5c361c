use Rattle.run_text.proofs.Appending.{extended, two}
use Rattle.run_text.proofs.standing.put_first.Goals as goal

pub returns : goal.returns
returns c =
    two c.extend_from_slice.result _ _ _ _ _ (rw c.from.ensures at c.in_ok-put.ensures)
    (extended c.extend_from_slice.result _ _ _ c.extend_from_slice.ensures.items)
