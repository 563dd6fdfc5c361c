use Rattle.summing.proofs.ConditionsFollow.{all_conditions}
use Rattle.summing.proofs.SummaryIs.{summary_is}
use Rattle.summing.proofs.summing.Summing.finish.Goals as goal

pub returns-clause-summary : goal.returns-clause-summary
returns-clause-summary c = λ s h was.
    let z = c.args.self in
    summary_is s h z.count z.grants z.peak c.in_ok-rows.rows.items z.conditions.items was.number was.grants
    was.highest (c.in_ok-rows.ensures.rows s h was)
    (all_conditions h z.conditions.items s.header.conditions was.conditions was.signals)
