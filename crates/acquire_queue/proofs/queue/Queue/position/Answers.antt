use Rattle.std.proofs.Common.{◌≡◌, None, sym, ap, ◌∙◌, arith, is_some}
use Rattle.history.specs.Line.{place_of}
use Rattle.acquire_queue.specs.Line.{live}
use Rattle.acquire_queue.proofs.Lines.{found, found_none}
use Rattle.acquire_queue.proofs.Nodes.{no_place, few_wait}
use Rattle.acquire_queue.proofs.queue.Queue.position.Goals as goal
use Rattle.acquire_queue.proofs.queue.Queue.position.Goals.{In_err-_number}

absent : (c : In_err-_number) → place_of c.args.seat c.args.self.now.arrivals ≡ None
absent c =
    ap (place_of c.args.seat) c.number_of.ensures.live
    ∙ no_place c.args.seat c.args.self.now.nodes (sym c.in_err-_number.ensures.number)

pub returns-in_err-_number-clause-position : goal.returns-in_err-_number-clause-position
returns-in_err-_number-clause-position c =
    c.from_residual.ensures
    ∙ sym (found_none c.args.seat _
    (absent (goal.at.returns-in_err-_number-clause-position c).In_err-_number))

pub returns-in_err-_number-clause-stands : goal.returns-in_err-_number-clause-stands
returns-in_err-_number-clause-stands c =
    ap is_some c.from_residual.ensures
    ∙ sym (ap is_some (absent (goal.at.returns-in_err-_number-clause-stands c).In_err-_number))

pub place_in-requires : goal.place_in-requires
place_in-requires c =
    omega (arith, c.self.invariant.counted, few_wait _ _ _ _ c.self.invariant, c.self.invariant.few)

pub returns-clause-stands : goal.returns-clause-stands
returns-clause-stands c =
    rw (← c.self.view_is)
    (ap is_some c.place_in.ensures ∙ found c.args.seat (live c.self.inside.nodes.nodes))
