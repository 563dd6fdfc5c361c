use Rattle.std.proofs.Common.{rules, ◌≡◌, ◌∙◌, true, sym, subst, refl}
use Rattle.monitor.specs.Below.{Interrupt, interrupted}
use Rattle.monitor.specs.Prelude.{free_of, step_of_waiting, ComesOf}
use Rattle.monitor.proofs.StillWaiting.{AllStillWait}
use Rattle.monitor.proofs.Freeing.{brings_still, fit_still, moves_since, stays}
use Rattle.monitor.proofs.Sections.{called_since, not_called, quiet_since, quietly}
use Rattle.monitor.proofs.TurnByTurn.{all_still_free, is_noted, place_later, replies, waits_on}
use Rattle.monitor.proofs.Turns.{all_still_as, waits_first}
use Rattle.monitor.proofs.monitor.Monitor.wait.Goals.{After-go_on-turn}
use Rattle.monitor.proofs.monitor.Monitor.wait.Goals as goal

pub loop-init : goal.loop-init
loop-init g c = (
  tt,
  tt,
  waits_first (g.P.Parking.did c.args.parking.now) c.args.pass.now c.args.waiting.stage c.args.waiting.limits
      (c.none-interrupts.result.taken ≡ true) c.is_true.ensures,
  refl,
  c.none-interrupts.ensures.seat ∙ c.seat.ensures,
  c.requires.carries,
  λ _. refl,
  not_called c.args.pass.now c.is_true.ensures,
  λ k. k,
)

pub go_on-turn-requires-clause-brings : goal.go_on-turn-requires-clause-brings
go_on-turn-requires-clause-brings g c =
    brings_still g.L.Load.is_counted g.L.Load.amount c.args.load.now c.loop.load 0 c.loop.invariant.6
    c.requires.brings

pub go_on-turn-requires-clause-waits : goal.go_on-turn-requires-clause-waits
go_on-turn-requires-clause-waits g c =
    let w = c.requires.waits in let still = c.loop.invariant.2 w.0 w.1 in (still.cause, still.waits)

pub unpark-requires : goal.unpark-requires
unpark-requires g c =
    let lock : c.loop.pass.lock ≡ c.args.self.now = search rules in
    place_later _ _ _ c.loop.waiting c.next_woke-woke.result _ _
    record { is_of = lock; places = c.requires.can.places } c.go_on-turn.ensures.gone_on

-- what the step comes of
comes : (g : _) (c : After-go_on-turn g) →
    ComesOf (g.P.Parking.did c.args.parking.now) c.args.pass.now.seat c.loop.waiting.limits c.loop.waiting.stage
    (step_of_waiting c.loop.waiting c.next_woke-woke.result)
comes g c =
    subst (λ i. ComesOf (g.P.Parking.did c.args.parking.now) i c.loop.waiting.limits c.loop.waiting.stage
    (step_of_waiting c.loop.waiting c.next_woke-woke.result)) c.loop.invariant.4 c.next_woke-woke.ensures.comes

-- an interrupt was taken so far
abbrev taken : (g : _) → After-go_on-turn g → Type 0
taken g c = c.next_woke-woke.new.self.taken ≡ true

still : (g : _) (c : After-go_on-turn g) → AllStillWait (g.P.Parking.did c.args.parking.now) c.args.pass.now
    c.args.waiting.stage c.args.waiting.limits (taken g c) c.loop.pass c.loop.waiting.stage
still g c =
    all_still_as (g.P.Parking.did c.args.parking.now) c.args.pass.now c.args.waiting.stage c.args.waiting.limits
    (c.loop.interrupts.taken ≡ true) (taken g c) c.loop.pass c.loop.waiting.stage c.next_woke-woke.ensures.kept
    c.loop.invariant.2

noted : (g : _) (c : After-go_on-turn g) →
    step_of_waiting c.loop.waiting c.next_woke-woke.result ≡ Interrupt → taken g c
noted g c =
    is_noted c.loop.waiting.limits c.loop.waiting.stage c.next_woke-woke.result (taken g c)
    c.next_woke-woke.ensures.noted

pub returns-in-Ends-clause-called : goal.returns-in-Ends-clause-called
returns-in-Ends-clause-called g c =
    called_since c.args.pass.now c.loop.pass c.go_on-turn.new.pass c.loop.invariant.7 c.go_on-turn.ensures.called

pub returns-in-Ends-clause-waited : goal.returns-in-Ends-clause-waited
returns-in-Ends-clause-waited g c =
    let at = (goal.at.returns-in-Ends-clause-waited g c).After-go_on-turn in
    replies (g.P.Parking.did c.args.parking.now) c.args.pass.now c.loop.pass c.go_on-turn.new.pass
    c.args.waiting.stage c.args.waiting.limits (taken g at) c.loop.waiting c.next_woke-woke.result
    c.go_on-turn.result c.requires.waits c.requires.first (still g at) c.loop.invariant.3
    (comes g at) (noted g at) c.go_on-turn.ensures.called.same
    c.go_on-turn.ensures.gone_on c.unpark.ensures c.in-Ends.reply _ c.in-Ends.is
    (λ was untold. subst (λ i. g.P.Parking.did c.args.parking.now (interrupted i))
    (c.next_woke-woke.ensures.seat ∙ c.loop.invariant.4) (c.settle.ensures.again was untold))

pub returns-in-Ends-clause-moves : goal.returns-in-Ends-clause-moves
returns-in-Ends-clause-moves g c =
    moves_since g.L.Load.fit g.L.Load.is_counted g.L.Load.amount c.args.load.now c.loop.load c.go_on-turn.new.load
    (free_of c.args.pass.now) (free_of c.loop.pass) (free_of c.go_on-turn.new.pass) c.loop.invariant.6
    c.loop.invariant.8
    (all_still_free (g.P.Parking.did c.args.parking.now) c.args.pass.now c.args.waiting.stage c.args.waiting.limits
    (c.loop.interrupts.taken ≡ true) c.loop.pass c.loop.waiting.stage c.requires.waits c.loop.invariant.2)
    c.go_on-turn.ensures.trades.0

pub loop-preserved : goal.loop-preserved
loop-preserved g c =
    let at = (goal.at.loop-preserved g c).After-go_on-turn in
    let x = waits_on (g.P.Parking.did c.args.parking.now) c.args.pass.now c.loop.pass c.go_on-turn.new.pass
    c.args.waiting.stage c.args.waiting.limits (taken g at) c.loop.waiting c.next_woke-woke.result
    c.go_on-turn.result c.requires.waits c.requires.first (still g at) c.loop.invariant.3
    (comes g at) (noted g at) c.go_on-turn.ensures.called.same
    c.go_on-turn.ensures.gone_on c.unpark.ensures c.in-Waits.next c.go_on-turn.ensures.called.shows c.in-Waits.is in
    let free = all_still_free (g.P.Parking.did c.args.parking.now) c.args.pass.now c.args.waiting.stage
    c.args.waiting.limits in
    let same = free (taken g at) c.go_on-turn.new.pass c.in-Waits.next.stage c.requires.waits x.0
    ∙ sym (free (c.loop.interrupts.taken ≡ true) c.loop.pass c.loop.waiting.stage c.requires.waits
    c.loop.invariant.2) in (
      tt,
      tt,
      x.0,
      x.1,
      c.next_woke-woke.ensures.seat ∙ c.loop.invariant.4,
      c.go_on-turn.ensures.carries,
      λ counted.
          stays g.L.Load.fit g.L.Load.is_counted g.L.Load.amount c.loop.load c.go_on-turn.new.load (free_of c.loop.pass)
          (free_of c.go_on-turn.new.pass) same c.go_on-turn.ensures.trades.0 counted
          ∙ c.loop.invariant.6 counted,
      quiet_since c.args.pass.now c.loop.pass c.go_on-turn.new.pass c.loop.invariant.7
          (quietly _ _ c.go_on-turn.ensures.called),
      λ k.
          fit_still g.L.Load.fit g.L.Load.is_counted g.L.Load.amount c.loop.load c.go_on-turn.new.load _ _
          c.go_on-turn.ensures.trades.0 (c.loop.invariant.8 k),
    )
