use Rattle.std.proofs.Common.{subst, arith}
use Rattle.std.specs.List.{AllByRecursion}
use Rattle.history_text.specs.Prelude.{IsBaseLine}
use Rattle.history_text.proofs.BaseWritten.{one_put, seats_left}
use Rattle.history_text.proofs.base_writing.put_seats.Goals as goal

pub overflow_cast-seat : goal.overflow_cast-seat
overflow_cast-seat c =
    let line = (subst (AllByRecursion IsBaseLine) (seats_left c.args.seats.now c.loop-seat.seat
    (record { calls = 0; exclusive = 0; shared = 0 }) c.loop-seat-test.true) c.loop-seat.invariant.each).0 in
    omega (arith, line.0)

pub put_line-requires : goal.put_line-requires
put_line-requires c =
    (subst (AllByRecursion IsBaseLine) (seats_left c.args.seats.now c.loop-seat.seat _
    c.loop-seat-test.true) c.loop-seat.invariant.each).0

pub loop-seat-preserved : goal.loop-seat-preserved
loop-seat-preserved c =
    let was = c.loop-seat.invariant in
    let put = one_put _ _ _ _ _ _ _ (seats_left c.args.seats.now c.loop-seat.seat _ c.loop-seat-test.true)
    was.lines was.kept was.each c.in_ok-put_line.ensures.ok in
    record { lines = put.0; kept = put.1; each = put.2; inside = omega (arith, c.loop-seat-test.true) }
