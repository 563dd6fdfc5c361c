use Rattle.std.proofs.Common.{refl, arith}
use Rattle.driver.proofs.Coding.{one_part_more}
use Rattle.driver.proofs.piece.Pieces.open.Goals as goal

pub loop-number-init : goal.loop-number-init
loop-number-init c =
    rw c.in_ok-rows.ensures.items (record { long = refl; each = λ i l. absurd (omega (arith, l)) })

pub loop-number-preserved : goal.loop-number-preserved
loop-number-preserved c =
    rw (c.in_ok-push.ensures.items, c.piece_at.ensures) (one_part_more _ _ c.loop-number.invariant)
