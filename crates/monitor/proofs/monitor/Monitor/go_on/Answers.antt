use Rattle.std.proofs.Common.{ap, ◌∙◌, subst, ℕ, sym}
use Rattle.history.specs.declared.step.Step.{Step}
use Rattle.monitor.specs.Prelude.{later_turn, Brings, LetsGo, given_by, holds_of}
use Rattle.monitor.proofs.LeftWaiting.{left_gone}
use Rattle.monitor.proofs.TurnByTurn.{goes_on, later_gives_none, later_lets_none, step_as}
use Rattle.monitor.proofs.monitor.Monitor.go_on.Goals as goal

pub turn-requires : goal.turn-requires
turn-requires g c =
    goes_on c.args.pass.now c.step_with-answer.new.pass c.args.waiting c.args.woke c.step_with-answer.result
    c.is_true.ensures c.requires.waits
    (step_as _ _ c.step-step.result _ _ c.step-step.ensures c.step_with-answer.ensures.stepped)

pub returns-clause-gone_on : goal.returns-clause-gone_on
returns-clause-gone_on g c = (
  c.step_with-answer.result,
  step_as _ _ c.step-step.result _ _ c.step-step.ensures c.step_with-answer.ensures.stepped,
  c.turn.ensures ∙ ap (λ (z : Step). later_turn c.args.waiting z c.step_with-answer.result) c.step-step.ensures,
)

pub step_with-answer-requires-clause-brings : goal.step_with-answer-requires-clause-brings
step_with-answer-requires-clause-brings g c =
    subst (λ (n : ℕ). Brings g.L.Load.is_counted (g.L.Load.amount c.args.load.now) n)
    (sym (ap given_by c.step-step.ensures ∙ later_gives_none c.args.waiting c.args.woke))
    c.requires.brings

pub step_with-answer-requires-clause-fit : goal.step_with-answer-requires-clause-fit
step_with-answer-requires-clause-fit g c = λ go.
    absurd (later_lets_none c.args.waiting c.args.woke (holds_of c.args.pass.now)
    (subst (λ (z : Step). LetsGo z (holds_of c.args.pass.now)) c.step-step.ensures go))

pub returns-clause-waits : goal.returns-clause-waits
returns-clause-waits g c =
    left_gone c.args.pass.now c.step_with-answer.new.pass c.args.waiting c.args.woke c.turn.result c.is_true.ensures
    c.requires.waits c.step_with-answer.ensures.called.same (
      c.step_with-answer.result,
      step_as _ _ c.step-step.result _ _ c.step-step.ensures c.step_with-answer.ensures.stepped,
      c.turn.ensures ∙ ap (λ (z : Step). later_turn c.args.waiting z c.step_with-answer.result) c.step-step.ensures,
    )
