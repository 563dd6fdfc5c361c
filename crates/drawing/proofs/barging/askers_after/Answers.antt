use Rattle.std.proofs.Common.{◌∷◌, ap, ◌∙◌, arith}
use mir.Val.{bool_byte}
use Rattle.summing.specs.Counting.{is_queued}
use Rattle.drawing.specs.Levels.{one_if}
use Rattle.drawing.proofs.Asking.{as_number, others_stay, own_waits, with_own}
use Rattle.drawing.proofs.barging.askers_after.Goals as goal

pub returns : goal.returns
returns c = λ s h stand count seat.
    let e = c.args.entry in
    let n = s.header.seats in
    let others = c.askers_beside.ensures.is s h stand count seat in
    let one = c.from.ensures ∙ ap bool_byte c.is_queued.ensures ∙ as_number (is_queued e.word) in
    omega (
      arith,
      others,
      others_stay s e h n,
      with_own s (e ∷ h) e.seat n seat,
      ap one_if (own_waits s e h),
      one,
    )
