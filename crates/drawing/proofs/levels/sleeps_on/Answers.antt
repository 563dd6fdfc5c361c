use Rattle.std.proofs.Common.{◌∙◌, sym}
use Rattle.drawing.proofs.LevelsKept.{awake_there, sleeps_where}
use Rattle.drawing.proofs.levels.sleeps_on.Goals as goal

pub returns-then-sleeps : goal.returns-then-sleeps
returns-then-sleeps c = λ s h stand.
    sleeps_where s h c.args.seat c.args.condition c.last_sleep.result stand.past
    (sym (c.sleeps.ensures s h stand) ∙ c.if-sleeps.true) (c.last_sleep.ensures s h stand)

pub returns-else-sleeps : goal.returns-else-sleeps
returns-else-sleeps c = λ s h stand.
    c.if-sleeps.false
    ∙ awake_there s h c.args.seat c.args.condition stand.past
    (sym (c.sleeps.ensures s h stand) ∙ c.if-sleeps.false)
