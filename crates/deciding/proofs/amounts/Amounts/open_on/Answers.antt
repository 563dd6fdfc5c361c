use Rattle.std.proofs.Common.{◌≡◌, ◌-◌, ap, ◌∙◌, subst, sym, arith, FitsSigned, pos, ◌+ℤ◌, ◌-ℤ◌}
use Rattle.std.specs.Int.{w128}
use mir.Val.{to_z, of_z}
use Rattle.std.proofs.lemmas.Int.{to_z-of_z}
use Rattle.deciding.specs.Below.{Base, created, opening_count}
use Rattle.history.proofs.SmallBases.{few_held}
use Rattle.deciding.proofs.AmountsFollow.{base_amounts}
use Rattle.deciding.proofs.amounts.Amounts.open_on.Goals as goal

pub left_free-requires-clause-held : goal.left_free-requires-clause-held
left_free-requires-clause-held c =
    let few = few_held c.args.base.now c.requires.good in
    let is = c.requires.held in
    let seats = c.requires.range.seats in
    omega (arith, few, is, seats)

pub returns : goal.returns
returns c =
    let r = c.left_free.result in
    let fits : FitsSigned w128 r = record { sfits = c.left_free.type_inv } in
    let back : to_z w128 (of_z w128 r) ≡ r = to_z-of_z w128 r fits in
    let made : FitsSigned w128 c.created.result = record { sfits = c.created.type_inv } in
    let same : to_z w128 (of_z w128 c.created.result) ≡ c.created.result =
    to_z-of_z w128 c.created.result made in
    base_amounts c.args.base.now c.args.held _ c.requires.range c.requires.good c.requires.held
    (back ∙ c.left_free.ensures
    ∙ ap (λ z. (z +ℤ pos c.base.inside.unheld) -ℤ pos c.args.held) (same ∙ c.created.ensures)
    ∙ ap (λ (b : Base). (created b.header.object +ℤ pos b.unheld) -ℤ pos c.args.held) c.base.view_is)
    (subst (FitsSigned w128) (sym back) fits)
    (c.from.ensures ∙ ap (λ n. n - c.base.inside.count) c.opening_count.ensures
    ∙ ap (λ (b : Base). opening_count b.header.object - b.count) c.base.view_is)
