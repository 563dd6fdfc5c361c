use Rattle.std.proofs.Common.{arith}
use Rattle.history_text.proofs.BaseLinesRead.{few, grown, may_next, place_asleep, place_in_line, seat_here, taken_view}
use Rattle.history_text.proofs.base_under_way.BaseUnderWay.take.Goals as goal

pub pass-requires-clause-follows : goal.pass-requires-clause-follows
pass-requires-clause-follows c =
    may_next _ _ _ c.self.invariant c.args.line.now (rw (← c.self.view_is) at c.requires)

pub take_line-requires-clause-seats : goal.take_line-requires-clause-seats
take_line-requires-clause-seats c =
    let may = may_next _ _ _ c.self.invariant c.args.line.now (rw (← c.self.view_is) at c.requires) in
    seat_here _ _ _ c.self.invariant _ may

pub take_line-requires-clause-line : goal.take_line-requires-clause-line
take_line-requires-clause-line c =
    let may = may_next _ _ _ c.self.invariant c.args.line.now (rw (← c.self.view_is) at c.requires) in
    place_in_line _ _ _ c.self.invariant _ may

pub take_line-requires-clause-sleepers : goal.take_line-requires-clause-sleepers
take_line-requires-clause-sleepers c =
    let may = may_next _ _ _ c.self.invariant c.args.line.now (rw (← c.self.view_is) at c.requires) in
    place_asleep _ _ _ c.self.invariant _ may

pub overflow_add-self : goal.overflow_add-self
overflow_add-self c = omega (arith, few _ _ _ c.self.invariant, c.self.invariant.count)

pub invariant_of-self : goal.invariant_of-self
invariant_of-self c =
    let may = may_next _ _ _ c.self.invariant c.args.line.now (rw (← c.self.view_is) at c.requires) in
    rw (c.pass.ensures, c.take_line.ensures) (grown _ _ _ c.self.invariant c.args.line.now may)

pub returns-clause-taken : goal.returns-clause-taken
returns-clause-taken c =
    let may = may_next _ _ _ c.self.invariant c.args.line.now (rw (← c.self.view_is) at c.requires) in
    rw (c.pass.ensures, c.take_line.ensures, ← c.self.view_is)
    (taken_view _ _ _ c.self.invariant c.args.line.now may)

pub returns-clause-few : goal.returns-clause-few
returns-clause-few c =
    let may = may_next _ _ _ c.self.invariant c.args.line.now (rw (← c.self.view_is) at c.requires) in
    rw (c.pass.ensures, c.take_line.ensures) (few _ _ _ (grown _ _ _ c.self.invariant c.args.line.now may))
