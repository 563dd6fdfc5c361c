use Rattle.history.specs.Entries.{start_on}
use Rattle.audit.specs.Auditor.{HasJudged}
use Rattle.audit.specs.Verdict.{front}
use Rattle.audit.proofs.verdict.judge.Given as goal

-- the entries so far were followed
abbrev pub invariant-loop-number : goal.invariant-loop-number
invariant-loop-number l = HasJudged (start_on l.header l.history) (front l.number l.history.entries) l.auditor
