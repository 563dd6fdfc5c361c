use Rattle.std.proofs.Common.{◌≡◌, length, get_or, replicate, refl, ap, ◌∙◌, sym, rules}
use Rattle.std.proofs.lemmas.List.{length-replicate}
use Rattle.audit.proofs.HoldsFollow.{stands_opened}
use Rattle.audit.proofs.holds.Holds.open.Goals as goal
use Rattle.deciding.proofs.NewTables.{blank}

pub returns-clause-stand : goal.returns-clause-stand
returns-clause-stand c k seats =
    let x : c.in_ok-exclusive.exclusive.items ≡ replicate c.args.seats 0 =
    c.in_ok-exclusive.ensures.items_if_clones_equal (λ y q. search rules) in
    let s : c.in_ok-shared.shared.items ≡ replicate c.args.seats 0 =
    c.in_ok-shared.ensures.items_if_clones_equal (λ y q. search rules) in
    stands_opened k _ (ap length x ∙ length-replicate c.args.seats 0 ∙ sym seats)
    (ap length s ∙ length-replicate c.args.seats 0 ∙ sym seats)
    (λ i. ap (λ l. get_or l i 0) x ∙ blank c.args.seats i 0)
    (λ i. ap (λ l. get_or l i 0) s ∙ blank c.args.seats i 0) refl refl
