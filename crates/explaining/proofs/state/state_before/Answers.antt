use Rattle.std.proofs.Common.{◌≡◌, ◌+◌, ◌≤◌, Option, Some, List, ap, ◌∙◌, sym, subst, reverse, length, leb-true, arith, rules, IsSomeAnd, true}
use Rattle.std.proofs.lemmas.Bool.{and_parts}
use Rattle.std.proofs.lemmas.List.{length-reverse}
use Rattle.history.proofs.NextBases.{can_go_on}
use Rattle.explaining.specs.Below.{Entry, Base, CanFold, MayFold, MOST_FOLDED, folded}
use Rattle.explaining.specs.State.{fits_fold, is_modest_of}
use Rattle.explaining.proofs.Modest.{is_modest}
use Rattle.explaining.proofs.state.state_before.Goals as goal

pub fold-requires : goal.fold-requires
fold-requires c =
    let b = c.args.base in
    let front = reverse c.args.entries.now in
    let q : c.fill.new.history.base ≡ Some b =
    c.fill.ensures.base ∙ ap (λ v. v.base) c.open_on-history.ensures in
    let may : MayFold b front = record {
      range = c.requires.range;
      modest = is_modest b (length c.args.entries.now) (sym c.if-not-fits_fold.ensures);
      can = c.requires.can;
    } in
    subst (λ (o : Option Base). IsSomeAnd o (λ x. MayFold x c.fill.new.history.entries)) (sym q)
    (subst (λ (es : List Entry). MayFold b es) (sym c.in_ok-fill.ensures.filled) may)

pub returns-clause-goes_on : goal.returns-clause-goes_on
returns-clause-goes_on c = λ h can.
    let b = c.args.base in
    let count = length c.args.entries.now in
    let front = reverse c.args.entries.now in
    let fits : fits_fold b count ≡ true = sym c.if-not-fits_fold.ensures in
    let few : b.entries + length front ≤ MOST_FOLDED =
    omega (arith, leb-true _ _ (and_parts (is_modest_of b.header.object b) _ fits).1, length-reverse c.args.entries.now) in
    let state : c.take_base.result ≡ folded b front = search rules in
    subst (λ (x : Base). CanFold x h) (sym state) (can_go_on b front h c.requires.range (is_modest b count fits) few can)
