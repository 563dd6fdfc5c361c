use Rattle.std.proofs.Common.{◌==◌, not, ap, sym, ◌∙◌, rules}
use Rattle.std.proofs.lemmas.Fn.{filter_same}
use Rattle.history.specs.NextBase.{sleepers_then}
use Rattle.history.proofs.base_parts.follow_asleep.Goals as goal

pub returns-in-Lapse-clause-items : goal.returns-in-Lapse-clause-items
returns-in-Lapse-clause-items c =
    filter_same _ (λ x. not (x.seat == c.args.entry.seat)) _ (λ x b f' k. search rules) _ _
    c.retain.ensures.filtered
    ∙ ap (λ w. sleepers_then w c.args.entry c.args.asleep.now.items) (sym c.in-Lapse.is)
