use Rattle.frame.proofs.AtOnce.{IsMade, acquires, admitted_so, at_once, releases, tries}
use Rattle.frame.proofs.Deciding.{step_next}
use Rattle.frame.proofs.machine.Core.step_alone.Goals as goal
use Rattle.frame.proofs.machine.Core.step_alone.Goals.{After-plain, After-plain-in-Acquire, After-plain-in-Give}

acquired : (g : _) (c : After-plain-in-Acquire g) →
    IsMade c.args.self.now c.args.seat c.args.step c.plain-in-Acquire.result
acquired g c =
    acquires c.args.self.now c.args.seat c.args.step c.plain-in-Acquire.result c.in-Acquire.mode c.in-Acquire.n
    c.in-Acquire.is c.plain-in-Acquire.ensures (c.is_alone.ensures c.if-not-is_alone.false)
    (record {
      admitted = admitted_so c.args.self.now c.args.step c.admits.result c.admits.ensures c.if-not-admits.false;
      below = c.may_take-2.ensures.below c.if-may_take-2.true;
      could = c.may_take-2.ensures.could c.if-may_take-2.true;
    })

tried : (g : _) (c : After-plain g) → IsMade c.args.self.now c.args.seat c.args.step c.plain.result
tried g c =
    tries c.args.self.now c.args.seat c.args.step c.plain.result c.in-Try.mode c.in-Try.n
    c.in-Try.is c.plain.ensures (c.is_alone.ensures c.if-not-is_alone.false)
    (record {
      admitted = admitted_so c.args.self.now c.args.step c.admits.result c.admits.ensures c.if-not-admits.false;
      below = c.may_take.ensures.below c.if-may_take.true;
      could = c.may_take.ensures.could c.if-may_take.true;
    })

released : (g : _) (c : After-plain-in-Give g) →
    IsMade c.args.self.now c.args.seat c.args.step c.plain-in-Give.result
released g c =
    releases c.args.self.now c.args.seat c.args.step c.plain-in-Give.result c.in-Give.mode c.in-Give.n
    c.in-Give.is c.plain-in-Give.ensures (c.is_alone.ensures c.if-not-is_alone.false)
    (record {
      admitted = admitted_so c.args.self.now c.args.step c.admits.result c.admits.ensures c.if-not-admits.false;
      gives = c.may_give.ensures c.if-may_give.true;
    })

pub enter-requires-in-Acquire-clause-next : goal.enter-requires-in-Acquire-clause-next
enter-requires-in-Acquire-clause-next g c =
    let at = goal.at.enter-requires-in-Acquire-clause-next g c in
    step_next c.args.self.now c.args.seat c.args.step c.plain-in-Acquire.result c.requires
    (acquired g at.After-plain-in-Acquire).is

pub enter-requires-clause-next : goal.enter-requires-clause-next
enter-requires-clause-next g c =
    let at = goal.at.enter-requires-clause-next g c in
    step_next c.args.self.now c.args.seat c.args.step c.plain.result c.requires (tried g at.After-plain).is

pub enter-requires-in-Give-clause-next : goal.enter-requires-in-Give-clause-next
enter-requires-in-Give-clause-next g c =
    let at = goal.at.enter-requires-in-Give-clause-next g c in
    step_next c.args.self.now c.args.seat c.args.step c.plain-in-Give.result c.requires
    (released g at.After-plain-in-Give).is

pub returns-in-Acquire-clause-done : goal.returns-in-Acquire-clause-done
returns-in-Acquire-clause-done g c =
    let at = goal.at.returns-in-Acquire-clause-done g c in
    at_once c.args.self.now c.enter-in-Acquire.new.self c.args.seat c.args.step c.plain-in-Acquire.result
    c.enter-in-Acquire.result (acquired g at.After-plain-in-Acquire) c.enter-in-Acquire.ensures.added

pub returns-in-Try-clause-done : goal.returns-in-Try-clause-done
returns-in-Try-clause-done g c =
    let at = goal.at.returns-in-Try-clause-done g c in
    at_once c.args.self.now c.enter.new.self c.args.seat c.args.step c.plain.result c.enter.result
    (tried g at.After-plain) c.enter.ensures.added

pub returns-in-Give-clause-done : goal.returns-in-Give-clause-done
returns-in-Give-clause-done g c =
    let at = goal.at.returns-in-Give-clause-done g c in
    at_once c.args.self.now c.enter-in-Give.new.self c.args.seat c.args.step c.plain-in-Give.result
    c.enter-in-Give.result (released g at.After-plain-in-Give) c.enter-in-Give.ensures.added
