use Rattle.std.proofs.Common.{◌≡◌, Some, sym, ap, ◌∙◌}
use Rattle.std.proofs.lemmas.Option.{none-some, same_Some}
use Rattle.acquire_queue.specs.Below.{place_of, Node}
use Rattle.acquire_queue.proofs.Nodes.{no_place, find_seat, found_under}
use Rattle.acquire_queue.proofs.queue.Queue.place_of.Goals as goal

pub returns-in_err-number : goal.returns-in_err-number
returns-in_err-number c =
    c.from_residual.ensures
    ∙ sym (ap (place_of c.args.seat) c.number_of.ensures.live
    ∙ no_place c.args.seat c.args.self.now.nodes (sym c.in_err-number.ensures.number))

pub returns-in_err-get : goal.returns-in_err-get
returns-in_err-get c =
    let f = find_seat _ _ _ _ c.self.invariant c.args.seat c.in_ok-number.number
    (rw (← c.self.view_is) at (sym c.in_ok-number.ensures.number)) in
    absurd (none-some f.node.node (c.in_err-get.ensures ∙ found_under c.args.seat c.in_ok-number.number _ f))

pub returns : goal.returns
returns c =
    let f = find_seat _ _ _ _ c.self.invariant c.args.seat c.in_ok-number.number
    (rw (← c.self.view_is) at (sym c.in_ok-number.ensures.number)) in
    let same : c.in_ok-get.field-0 ≡ f.node.node =
    same_Some _ _ (c.in_ok-get.ensures ∙ found_under c.args.seat c.in_ok-number.number _ f) in
    rw (← c.self.view_is) (ap (λ (x : Node). Some x.arrival) same ∙ sym f.place)
