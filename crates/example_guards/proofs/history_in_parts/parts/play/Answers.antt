use Rattle.example_guards.proofs.history_in_parts.parts.play.Goals as goal

pub open-requires-2-clause-opened : goal.open-requires-2-clause-opened
open-requires-2-clause-opened g c = c.open.ensures.opened 2
