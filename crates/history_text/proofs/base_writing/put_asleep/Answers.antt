use Rattle.std.proofs.Common.{subst, arith}
use Rattle.std.specs.List.{AllByRecursion}
use Rattle.history_text.specs.Prelude.{Sleeps, IsBaseLine}
use Rattle.history_text.proofs.BaseWritten.{left_at, one_put}
use Rattle.history_text.proofs.base_writing.put_asleep.Goals as goal

pub put_line-requires : goal.put_line-requires
put_line-requires c =
    (subst (AllByRecursion IsBaseLine) (left_at (Sleeps c.args.condition) c.args.list.now
    c.loop-sleeper.sleeper-index _ c.loop-sleeper-test.true) c.loop-sleeper.invariant.each).0

pub loop-sleeper-preserved : goal.loop-sleeper-preserved
loop-sleeper-preserved c =
    let was = c.loop-sleeper.invariant in
    let put = one_put _ _ _ _ _ _ _
    (left_at (Sleeps c.args.condition) c.args.list.now c.loop-sleeper.sleeper-index _
    c.loop-sleeper-test.true) was.lines was.kept was.each c.in_ok-put_line.ensures.ok in
    record { lines = put.0; kept = put.1; each = put.2; inside = omega (arith, c.loop-sleeper-test.true) }
