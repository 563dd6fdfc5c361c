use Rattle.std.proofs.Common.{rules}
use Rattle.std.proofs.lemmas.Fn.{filter_same}
use Rattle.history.specs.NextBase.{stays_there}
use Rattle.history.proofs.base_parts.leave_line.Goals as goal

pub returns-clause-items : goal.returns-clause-items
returns-clause-items c =
    filter_same _ (stays_there c.args.entry) _ (λ x b f' k. search rules) _ _ c.retain.ensures.filtered
