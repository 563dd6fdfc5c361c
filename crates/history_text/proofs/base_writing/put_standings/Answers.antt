use Rattle.std.proofs.Common.{subst, arith}
use Rattle.std.specs.List.{AllByRecursion}
use Rattle.history_text.specs.Prelude.{Stands, IsBaseLine}
use Rattle.history_text.proofs.BaseWritten.{left_at, one_put}
use Rattle.history_text.proofs.base_writing.put_standings.Goals as goal

pub put_line-requires : goal.put_line-requires
put_line-requires c =
    (subst (AllByRecursion IsBaseLine) (left_at Stands c.args.line.now c.loop-standing.standing-index _
    c.loop-standing-test.true) c.loop-standing.invariant.each).0

pub loop-standing-preserved : goal.loop-standing-preserved
loop-standing-preserved c =
    let was = c.loop-standing.invariant in
    let put = one_put _ _ _ _ _ _ _
    (left_at Stands c.args.line.now c.loop-standing.standing-index _ c.loop-standing-test.true) was.lines
    was.kept was.each c.in_ok-put_line.ensures.ok in
    record { lines = put.0; kept = put.1; each = put.2; inside = omega (arith, c.loop-standing-test.true) }
