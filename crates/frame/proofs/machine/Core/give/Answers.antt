use Rattle.frame.proofs.AtOnce.{gives_so}
use Rattle.frame.proofs.Recording.{made_plain}
use Rattle.frame.proofs.machine.Core.give.Goals as goal

pub answer-requires-clause-made : goal.answer-requires-clause-made
answer-requires-clause-made g c =
    made_plain _ c.plain.result _ (gives_so c.args.self.now c.args.seat c.args.mode c.args.n
    (c.is_idle.ensures c.if-is_idle.true) (c.gives.ensures c.if-gives.true)) c.plain.ensures
