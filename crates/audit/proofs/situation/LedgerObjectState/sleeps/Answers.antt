use Rattle.std.proofs.Common.{◌∙◌}
use Rattle.condition_queue.proofs.Movable.{sleeps_is}
use Rattle.audit.proofs.WaitingFollow.{each_waits_once}
use Rattle.audit.proofs.situation.LedgerObjectState.sleeps.Goals as goal

pub returns : goal.returns
returns c s h st =
    c.is_some.ensures
    ∙ sleeps_is s h c.args.seat c.args.self.now.waiting.asleep c.sleeper_of.result
    (each_waits_once s h c.args.self.now st) st.waits.kept.sleepers c.sleeper_of.ensures.listed
