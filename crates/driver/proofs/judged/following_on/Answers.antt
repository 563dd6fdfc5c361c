use Rattle.driver.proofs.Judging.{follows_none}
use Rattle.driver.proofs.judged.following_on.Goals as goal

pub returns-clause-follows : goal.returns-clause-follows
returns-clause-follows c =
    follows_none _ _ c.in_ok-auditor.ensures.judged c.new-kept.ensures.items c.in_ok-summing.ensures.summed
