use Rattle.std.proofs.Common.{◌≡◌, ℕ, List, refl, sym, subst}
use Rattle.std.proofs.Math.ListN.{replicate}
use Rattle.frame.proofs.Tables.{table_total, table_zeros}
use Rattle.read_write.proofs.hooks.RwHooks.open.Goals as goal

pub invariant_of-result : goal.invariant_of-result
invariant_of-result c =
    let items : c.in-Ok.reads.items ≡ replicate c.from.result 0 =
    c.in-Ok.ensures.items_if_clones_equal (λ y e. e) in
    let P : List ℕ → Type 0 = λ xs. 0 ≡ table_total xs in
    record { owned = refl; seated = refl; summed = subst P (sym items) (sym (table_zeros c.from.result)) }
