use Rattle.std.proofs.Common.{rules, ◌≡◌, None, sym, ◌∙◌, subst, ℕ, ap}
use Rattle.history.specs.declared.step.Step.{Step}
use Rattle.monitor.specs.Prelude.{Brings, LetsGo, given_by, holds_of, step_by, IsStep, answer_of}
use Rattle.monitor.proofs.LeftWaiting.{left_begun}
use Rattle.monitor.proofs.TurnByTurn.{begins_awake, busy_now, stepped_now, step_gives_none, step_lets}
use Rattle.monitor.proofs.monitor.Monitor.begin_quietly.Goals.{In-Some}
use Rattle.monitor.proofs.monitor.Monitor.begin_quietly.Goals as goal

-- what was made is the step of the request
made : (g : _) (c : In-Some g) → IsStep c.args.pass.now (step_by c.args.request c.args.how c.args.interrupted)
    c.in-Some.answer c.step_quietly.new.pass
made g c =
    stepped_now c.args.pass.now c.step_quietly.new.pass c.step-step.result _ c.step_quietly.result
    c.in-Some.answer c.step-step.ensures c.step_quietly.ensures.stepped
    (sym c.answer_of.ensures ∙ c.in-Some.is)

pub first_turn-requires : goal.first_turn-requires
first_turn-requires g c =
    begins_awake c.args.pass.now c.step_quietly.new.pass c.args.request c.args.how c.args.interrupted
    c.in-Some.answer (made g (goal.at.first_turn-requires g c).In-Some)

pub returns-in_default-clause-busy : goal.returns-in_default-clause-busy
returns-in_default-clause-busy g c =
    let busy : answer_of c.step_quietly.result ≡ None = search rules in
    busy_now c.args.pass.now c.step_quietly.new.pass c.step-step.result c.step_quietly.result
    c.step_quietly.ensures.stepped busy

pub returns-clause-begun : goal.returns-clause-begun
returns-clause-begun g c = (
  c.in-Some.answer,
  made g (goal.at.returns-clause-begun g c).In-Some,
  c.first_turn.ensures,
)

pub step_quietly-requires-clause-brings : goal.step_quietly-requires-clause-brings
step_quietly-requires-clause-brings g c =
    subst (λ (n : ℕ). Brings g.L.Load.is_counted (g.L.Load.amount c.args.load.now) n)
    (sym (ap given_by c.step-step.ensures ∙ step_gives_none c.args.request c.args.how c.args.interrupted))
    c.requires.brings

pub step_quietly-requires-clause-fit : goal.step_quietly-requires-clause-fit
step_quietly-requires-clause-fit g c = λ go.
    c.requires.fit (step_lets c.args.request c.args.how c.args.interrupted (holds_of c.args.pass.now)
    (subst (λ (z : Step). LetsGo z (holds_of c.args.pass.now)) c.step-step.ensures go))

pub returns-clause-waits : goal.returns-clause-waits
returns-clause-waits g c =
    left_begun c.args.pass.now c.step_quietly.new.pass c.args.request c.args.how c.args.moment c.args.interrupted
    c.first_turn.result
    (c.in-Some.answer, made g (goal.at.returns-clause-waits g c).In-Some, c.first_turn.ensures)
    c.step_quietly.ensures.called.same
