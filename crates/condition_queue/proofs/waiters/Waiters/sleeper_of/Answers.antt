use Rattle.std.proofs.Common.{◌≡◌, ◌<◌, length, get_or, None, ap, ◌∙◌, sym, arith, ltb-true}
use Rattle.std.proofs.lemmas.List.{get_or_read}
use Rattle.condition_queue.proofs.Kept.{condition_known}
use Rattle.condition_queue.proofs.waiters.Waiters.sleeper_of.Goals as goal

pub returns-clause-condition : goal.returns-clause-condition
returns-clause-condition c =
    let found = c.in_ok-get.field-0.now in
    let low : c.args.seat < length c.self.inside.table.items =
    omega (arith, ltb-true _ _ (sym c.in_ok-get.ensures.lookup.0), ap length c.deref.ensures.value) in
    let told : found ≡ get_or c.self.inside.table.items c.args.seat None =
    get_or_read c.self.inside.table.items c.args.seat found low (c.in_ok-get.ensures.lookup.1
    ∙ ap (λ l. get_or l c.args.seat found) c.deref.ensures.value) None in
    rw (← c.self.view_is) (condition_known _ _ _ _ c.self.invariant c.args.seat found (sym told))
