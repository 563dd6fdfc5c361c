use Rattle.std.proofs.Common.{◌∙◌, sym}
use Rattle.frame.proofs.ByKind.{joins, passes}
use Rattle.frame.proofs.Recording.{made_plain}
use Rattle.frame.proofs.machine.Core.acquire.Goals as goal

pub answer-requires-clause-made : goal.answer-requires-clause-made
answer-requires-clause-made g c =
    made_plain _ c.plain.result _ (joins c.args.self.now c.args.seat c.args.mode c.args.n
    (c.is_idle.ensures c.if-not-is_idle.false) (sym c.queues.ensures ∙ c.if-queues.true)) c.plain.ensures

pub answer-requires-then-takes-clause-made : goal.answer-requires-then-takes-clause-made
answer-requires-then-takes-clause-made g c =
    made_plain _ c.plain-then-takes.result _ (passes c.args.self.now c.args.seat c.args.mode c.args.n
    (c.is_idle.ensures c.if-not-is_idle.false) (sym c.queues.ensures ∙ c.if-queues.false)
    (c.takes.ensures c.if-takes.true)) c.plain-then-takes.ensures
