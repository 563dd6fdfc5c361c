use Rattle.std.proofs.Common.{◌≡◌, ℕ, get_or, None, arith}
use Rattle.std.proofs.lemmas.Grind.{common_steps}
use Rattle.condition_queue.proofs.Kept.{kept_opened}
use Rattle.condition_queue.proofs.waiters.Waiters.open.Goals as goal

pub invariant_of-result : goal.invariant_of-result
invariant_of-result c =
    let none : (i : ℕ) → get_or c.in_ok-table.table.items i None ≡ None = λ i. grind (arith, common_steps) in
    let zeros : (d : ℕ) → get_or c.in_ok-counts.counts.items d 0 ≡ 0 = λ d. grind (arith, common_steps) in
    let table = c.in_ok-table.table.ok.0 in
    let counts = c.in_ok-counts.counts.ok.0 in
    kept_opened c.args.seats c.in_ok-lists.lists c.in_ok-counts.counts.items c.in_ok-table.table.items
    c.in_ok-lists.ensures.no_items c.in_ok-lists.ensures.no_keys none zeros
    (omega (arith, c.in_ok-counts.ensures.len, counts, c.in_ok-lists.ensures.count))
    (omega (arith, c.in_ok-table.ensures.len, table)) (omega (arith, c.in_ok-lists.ensures.room))
    (omega (arith, c.ranges.seats.fits))
