use Rattle.std.proofs.Common.{[], ap, ◌∙◌, ◌∷◌, None, arith, get_or, length-append}
use Rattle.summing.specs.Prelude.{no_tally, begun}
use Rattle.summing.proofs.Tables.{pushed}
use Rattle.summing.proofs.summing.seats_at_start.Goals as goal

pub loop-seat-preserved : goal.loop-seat-preserved
loop-seat-preserved c =
    let was = c.loop-seat in
    let new = c.push_reserved.ensures in
    record {
      long = rw new.items (omega (
        arith,
        length-append was.seats.items (c.no_tally.result ∷ []),
        was.invariant.long,
      ));
      capacity = omega (arith, new.capacity, was.invariant.capacity);
      none = λ s stand i lt. ap (λ xs. get_or xs i (no_tally None)) new.items
          ∙ pushed was.seats.items c.no_tally.result (no_tally None) (λ j. no_tally (begun s [] j)) was.seat
          was.invariant.long (was.invariant.none s stand)
          (c.no_tally.ensures ∙ ap no_tally (c.begun_at_start.ensures s stand)) i lt;
    }
