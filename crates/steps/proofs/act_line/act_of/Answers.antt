use Rattle.std.proofs.Common.{◌≡◌, ◌≢◌, ℕ, List, Option, Some, None, IfNone, codes}
use Rattle.steps.specs.Below.{Act, Do, Trim, Step}
use Rattle.steps.specs.declared.header.Format.TheVariants.{Two}
use Rattle.steps.specs.declared.header.StepsHeader.{StepsHeader}
use Rattle.steps.specs.StepLines.{IsAct, IsStep, act_line, step_line}
use Rattle.steps.proofs.act_line.act_of.Goals as goal

neither : (h : StepsHeader) (line : List ℕ) → ((s : ℕ × Step) → IsStep h.header.seats s → line ≢ step_line s)
    → (h.format ≡ Two → line ≢ codes "trim") → (act : Act) → IsAct h act → line ≢ act_line act
neither h line no_step no_trim (Do i step) fits = no_step (i, step) fits
neither h line no_step no_trim Trim fits = no_trim fits

none_of : (r : Option Act) (h : StepsHeader) (line : List ℕ)
    → ((s : ℕ × Step) → IsStep h.header.seats s → line ≢ step_line s) →
    IfNone r (h.format ≡ Two → line ≢ codes "trim") →
    IfNone r ((act : Act) → IsAct h act → line ≢ act_line act)
none_of None h line no_step no_trim = neither h line no_step no_trim
none_of (Some act) h line no_step no_trim = tt

pub returns-in-None-clause-none : goal.returns-in-None-clause-none
returns-in-None-clause-none c =
    none_of c.trim_of.result c.args.header.now c.args.line.now c.in-None.ensures.none c.trim_of.ensures.none
