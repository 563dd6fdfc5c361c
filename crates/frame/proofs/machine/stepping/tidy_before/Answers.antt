use Rattle.std.proofs.Common.{◌≤◌, length, arith, subst}
use Rattle.frame.proofs.Tidying.{all_live_tidy}
use Rattle.frame.proofs.machine.stepping.tidy_before.Goals as goal

-- no node is cancelled
pub returns-else-live_len-standing-clause-tidy : goal.returns-else-live_len-standing-clause-tidy
returns-else-live_len-standing-clause-tidy c =
    let nodes = c.args.queue.now.nodes in
    all_live_tidy c.args.seat nodes (subst (λ arrivals. length nodes ≤ length arrivals) c.standing.ensures.live
    (omega (arith, c.live_len.ensures.len, c.standing.ensures.standing, c.if-live_len-standing.false)))
