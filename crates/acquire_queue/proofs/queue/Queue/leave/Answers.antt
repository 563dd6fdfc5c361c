use Rattle.std.proofs.Common.{◌≡◌, length, Some, sym, ap, ◌∙◌, refl, arith, is_some}
use Rattle.acquire_queue.specs.Line.{number_of}
use Rattle.acquire_queue.proofs.Lines.{left_absent}
use Rattle.acquire_queue.proofs.Nodes.{no_place, stands_by, under_by, left_node, left_between, left_head_seat, few_behind_head, some_wait, kept_gone, kept_gone_swept, line_gone_swept, standing_left, standing_swept}
use Rattle.acquire_queue.proofs.queue.Queue.leave.Goals as goal
use Rattle.acquire_queue.proofs.queue.Queue.leave.Goals.{In-Some, In_default}

found : (c : In-Some) → number_of c.args.seat c.self.inside.nodes.nodes ≡ Some c.in-Some.number
found c = rw (← c.self.view_is) at (sym c.in-Some.ensures.number)

pub returns-in_default-clause-stood : goal.returns-in_default-clause-stood
returns-in_default-clause-stood c =
    rw (← c.self.view_is)
    (sym (ap is_some (no_place c.args.seat c.self.inside.nodes.nodes
    (rw (← c.self.view_is) at (sym c.number_of.ensures.number ∙ c.in_default.is)))))

pub returns-in_default-clause-line : goal.returns-in_default-clause-line
returns-in_default-clause-line c =
    rw (← c.self.view_is)
    (sym (left_absent c.args.seat _
    (no_place c.args.seat c.self.inside.nodes.nodes
    (rw (← c.self.view_is) at (sym c.number_of.ensures.number ∙ c.in_default.is)))))

pub leave_node-requires : goal.leave_node-requires
leave_node-requires c =
    under_by _ _ _ _ c.self.invariant c.args.seat c.in-Some.number
    (found (goal.at.leave_node-requires c).In-Some)

pub invariant_of-self : goal.invariant_of-self
invariant_of-self c =
    kept_gone_swept _ _ _ _ c.self.invariant c.args.seat c.in-Some.number
    (found (goal.at.invariant_of-self c).In-Some)
    c.leave_node.new.nodes c.free_cancelled.new.nodes _ refl c.leave_node.ensures.nodes
    c.leave_node.ensures.places
    c.free_cancelled.ensures.nodes c.free_cancelled.ensures.places

pub invariant_of-self-else-len-self : goal.invariant_of-self-else-len-self
invariant_of-self-else-len-self c =
    kept_gone _ _ _ _ c.self.invariant c.args.seat c.in-Some.number
    (found (goal.at.invariant_of-self-else-len-self c).In-Some) c.leave_node.new.nodes _ refl
    c.leave_node.ensures.nodes
    c.leave_node.ensures.places (omega (arith, c.len.ensures, c.if-len-self.false))

pub returns-then-len-self-clause-stood : goal.returns-then-len-self-clause-stood
returns-then-len-self-clause-stood c =
    rw (← c.self.view_is)
    (sym (stands_by _ _ _ _ c.self.invariant c.args.seat c.in-Some.number
    (found (goal.at.returns-then-len-self-clause-stood c).In-Some)))

pub returns-then-len-self-clause-line : goal.returns-then-len-self-clause-line
returns-then-len-self-clause-line c =
    rw (← c.self.view_is)
    (line_gone_swept _ _ _ _ c.self.invariant c.args.seat c.in-Some.number
    (found (goal.at.returns-then-len-self-clause-line c).In-Some) c.leave_node.new.nodes
    c.free_cancelled.new.nodes
    c.leave_node.ensures.nodes c.free_cancelled.ensures.nodes)

pub returns-else-len-self-clause-stood : goal.returns-else-len-self-clause-stood
returns-else-len-self-clause-stood c =
    rw (← c.self.view_is)
    (sym (stands_by _ _ _ _ c.self.invariant c.args.seat c.in-Some.number
    (found (goal.at.returns-else-len-self-clause-stood c).In-Some)))

pub returns-else-len-self-clause-line : goal.returns-else-len-self-clause-line
returns-else-len-self-clause-line c =
    rw (← c.self.view_is)
    ((left_node _ _ _ _ c.self.invariant c.args.seat c.in-Some.number
    (found (goal.at.returns-else-len-self-clause-line c).In-Some) c.leave_node.new.nodes
    c.leave_node.ensures.nodes).arrivals)

pub returns-then-len-self-clause-standing : goal.returns-then-len-self-clause-standing
returns-then-len-self-clause-standing c =
    let i = c.self.invariant in
    let nodes = c.self.inside.nodes.nodes in
    let stood = found (goal.at.returns-then-len-self-clause-standing c).In-Some in
    let kept =
    kept_gone_swept _ _ _ _ i c.args.seat c.in-Some.number stood c.leave_node.new.nodes
    c.free_cancelled.new.nodes _ refl c.leave_node.ensures.nodes c.leave_node.ensures.places
    c.free_cancelled.ensures.nodes c.free_cancelled.ensures.places in
    rw (← c.self.view_is) (λ first is other.
    let same = ap length c.leave_node.ensures.nodes
    ∙ left_between c.args.seat c.in-Some.number nodes i.apart i.headed stood first is other in
    standing_swept c.self.inside.seats nodes _ _ same c.free_cancelled.ensures.nodes
    (omega (arith, kept.counted, c.len.ensures, c.if-len-self.true)))

pub returns-else-len-self-clause-standing : goal.returns-else-len-self-clause-standing
returns-else-len-self-clause-standing c =
    let i = c.self.invariant in
    let nodes = c.self.inside.nodes.nodes in
    let stood = found (goal.at.returns-else-len-self-clause-standing c).In-Some in
    let kept =
    kept_gone _ _ _ _ i c.args.seat c.in-Some.number stood c.leave_node.new.nodes _ refl
    c.leave_node.ensures.nodes c.leave_node.ensures.places
    (omega (arith, c.len.ensures, c.if-len-self.false)) in
    rw (← c.self.view_is) (λ first is other.
    let same = ap length c.leave_node.ensures.nodes
    ∙ left_between c.args.seat c.in-Some.number nodes i.apart i.headed stood first is other in
    standing_left c.self.inside.seats nodes _ same
    (omega (arith, kept.counted, c.len.ensures, c.if-len-self.false)))

-- the first leaves: no more nodes stand than before, so none is looked for
pub returns-then-len-self-clause-head : goal.returns-then-len-self-clause-head
returns-then-len-self-clause-head c =
    let i = c.self.invariant in
    let stood = found (goal.at.returns-then-len-self-clause-head c).In-Some in
    rw (← c.self.view_is) (λ first is own.
    let some = some_wait _ _ _ _ i c.args.seat c.in-Some.number stood in
    let same = ap length (c.leave_node.ensures.nodes
    ∙ left_head_seat c.args.seat c.in-Some.number c.self.inside.nodes.nodes i.headed stood first is own) in
    absurd (omega (
      arith,
      same,
      few_behind_head c.self.inside.seats c.self.inside.waiting c.self.inside.nodes.nodes some i.bounded,
      c.len.ensures,
      c.if-len-self.true,
    )))

pub returns-else-len-self-clause-head : goal.returns-else-len-self-clause-head
returns-else-len-self-clause-head c =
    rw (← c.self.view_is) (λ first is own.
    c.leave_node.ensures.nodes
    ∙ left_head_seat c.args.seat c.in-Some.number c.self.inside.nodes.nodes c.self.invariant.headed
    (found (goal.at.returns-else-len-self-clause-head c).In-Some) first is own)
