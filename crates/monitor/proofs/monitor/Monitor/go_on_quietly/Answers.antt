use Rattle.std.proofs.Common.{rules, ◌≡◌, None, sym, ap, ◌∙◌, subst, ℕ}
use Rattle.history.specs.declared.step.Step.{Step}
use Rattle.monitor.specs.Prelude.{Brings, LetsGo, given_by, holds_of, later_turn, step_of_waiting, IsStep, answer_of}
use Rattle.monitor.proofs.LeftWaiting.{left_gone}
use Rattle.monitor.proofs.TurnByTurn.{goes_on, busy_now, stepped_now, later_gives_none, later_lets_none}
use Rattle.monitor.proofs.monitor.Monitor.go_on_quietly.Goals.{In-Some}
use Rattle.monitor.proofs.monitor.Monitor.go_on_quietly.Goals as goal

-- what was made is the step of the wait
made : (g : _) (c : In-Some g) → IsStep c.args.pass.now (step_of_waiting c.args.waiting c.args.woke)
    c.in-Some.answer c.step_quietly.new.pass
made g c =
    stepped_now c.args.pass.now c.step_quietly.new.pass c.step-step.result _ c.step_quietly.result
    c.in-Some.answer c.step-step.ensures c.step_quietly.ensures.stepped
    (sym c.answer_of.ensures ∙ c.in-Some.is)

pub turn-requires : goal.turn-requires
turn-requires g c =
    goes_on c.args.pass.now c.step_quietly.new.pass c.args.waiting c.args.woke c.in-Some.answer
    c.is_true.ensures c.requires.waits (made g (goal.at.turn-requires g c).In-Some)

pub returns-in_default-clause-busy : goal.returns-in_default-clause-busy
returns-in_default-clause-busy g c =
    let busy : answer_of c.step_quietly.result ≡ None = search rules in
    busy_now c.args.pass.now c.step_quietly.new.pass c.step-step.result c.step_quietly.result
    c.step_quietly.ensures.stepped busy

pub returns-clause-gone_on : goal.returns-clause-gone_on
returns-clause-gone_on g c = (
  c.in-Some.answer,
  made g (goal.at.returns-clause-gone_on g c).In-Some,
  c.turn.ensures ∙ ap (λ (z : Step). later_turn c.args.waiting z c.in-Some.answer) c.step-step.ensures,
)

pub step_quietly-requires-clause-brings : goal.step_quietly-requires-clause-brings
step_quietly-requires-clause-brings g c =
    subst (λ (n : ℕ). Brings g.L.Load.is_counted (g.L.Load.amount c.args.load.now) n)
    (sym (ap given_by c.step-step.ensures ∙ later_gives_none c.args.waiting c.args.woke))
    c.requires.brings

pub step_quietly-requires-clause-fit : goal.step_quietly-requires-clause-fit
step_quietly-requires-clause-fit g c = λ go.
    absurd (later_lets_none c.args.waiting c.args.woke (holds_of c.args.pass.now)
    (subst (λ (z : Step). LetsGo z (holds_of c.args.pass.now)) c.step-step.ensures go))

pub returns-clause-waits : goal.returns-clause-waits
returns-clause-waits g c =
    left_gone c.args.pass.now c.step_quietly.new.pass c.args.waiting c.args.woke c.turn.result c.is_true.ensures
    c.requires.waits c.step_quietly.ensures.called.same (
      c.in-Some.answer,
      made g (goal.at.returns-clause-waits g c).In-Some,
      c.turn.ensures ∙ ap (λ (z : Step). later_turn c.args.waiting z c.in-Some.answer) c.step-step.ensures,
    )
