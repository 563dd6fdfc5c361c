use Rattle.std.proofs.Common.{subst, ℕ, sym, ap, ◌∙◌}
use Rattle.history.specs.declared.step.Step.{Step}
use Rattle.monitor.specs.Load.{Brings, LetsGo, given_by, holds_of}
use Rattle.monitor.proofs.FirstTurns.{awake_first}
use Rattle.monitor.proofs.LeftWaiting.{left_begun}
use Rattle.monitor.proofs.TurnByTurn.{step_as, step_gives_none, step_lets}
use Rattle.monitor.proofs.monitor.Monitor.begin.Goals as goal

pub first_turn-requires : goal.first_turn-requires
first_turn-requires g c =
    awake_first c.args.pass.now c.step_with-answer.new.pass c.args.request c.args.how
    c.args.interrupted c.step_with-answer.result
    (step_as c.args.pass.now c.step_with-answer.new.pass c.step-step.result _ _
    c.step-step.ensures c.step_with-answer.ensures.stepped)

pub returns-clause-begun : goal.returns-clause-begun
returns-clause-begun g c = (
  c.step_with-answer.result,
  step_as c.args.pass.now c.step_with-answer.new.pass c.step-step.result _ _
      c.step-step.ensures c.step_with-answer.ensures.stepped,
  c.first_turn.ensures,
)

pub step_with-answer-requires-clause-brings : goal.step_with-answer-requires-clause-brings
step_with-answer-requires-clause-brings g c =
    subst (λ (n : ℕ). Brings g.L.Load.is_counted (g.L.Load.amount c.args.load.now) n)
    (sym (ap given_by c.step-step.ensures ∙ step_gives_none c.args.request c.args.how c.args.interrupted))
    c.requires.brings

pub step_with-answer-requires-clause-fit : goal.step_with-answer-requires-clause-fit
step_with-answer-requires-clause-fit g c = λ go.
    c.requires.fit (step_lets c.args.request c.args.how c.args.interrupted (holds_of c.args.pass.now)
    (subst (λ (z : Step). LetsGo z (holds_of c.args.pass.now)) c.step-step.ensures go))

pub returns-clause-waits : goal.returns-clause-waits
returns-clause-waits g c =
    left_begun c.args.pass.now c.step_with-answer.new.pass c.args.request c.args.how c.args.moment c.args.interrupted
    c.first_turn.result (
      c.step_with-answer.result,
      step_as c.args.pass.now c.step_with-answer.new.pass c.step-step.result _ _
          c.step-step.ensures c.step_with-answer.ensures.stepped,
      c.first_turn.ensures,
    ) c.step_with-answer.ensures.called.same
