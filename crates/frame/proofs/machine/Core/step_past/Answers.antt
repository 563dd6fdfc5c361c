use Rattle.std.proofs.Common.{sym}
use Rattle.frame.proofs.Recording.{made_plain}
use Rattle.frame.proofs.machine.Core.step_past.Goals as goal

pub record_at_once-requires-clause-made : goal.record_at_once-requires-clause-made
record_at_once-requires-clause-made g c =
    made_plain _ c.entry_at_once.result _ (c.goes_past.ensures c.if-not-goes_past.false)
    c.entry_at_once.ensures

pub returns-clause-done : goal.returns-clause-done
returns-clause-done g c = rw (sym c.entry_at_once.ensures) c.record_at_once.ensures.done
