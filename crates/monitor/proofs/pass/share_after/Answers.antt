use Rattle.std.proofs.Common.{◌≡◌, ◌+◌, sym, subst}
use Rattle.monitor.specs.Below.{ended_calls, made_by}
use Rattle.monitor.specs.inner.AtOnce.{reply_of}
use Rattle.monitor.proofs.FastWay.{one_more}
use Rattle.monitor.proofs.pass.share_after.Goals as goal

pub returns-in-Some : goal.returns-in-Some
returns-in-Some c = λ seat step.
    subst (λ o. c.one_call_more.result ≡ ended_calls (made_by (reply_of seat step o c.args.answer.now)) + c.args.share)
    (sym c.in-Some.is) (one_more seat step c.in-Some._named c.one_call_more.result c.args.share c.one_call_more.ensures)

pub returns-in-None : goal.returns-in-None
returns-in-None c = λ seat step.
    subst (λ o. c.share_behind.result ≡ ended_calls (made_by (reply_of seat step o c.args.answer.now)) + c.args.share)
    (sym c.in-None.is) c.share_behind.ensures
