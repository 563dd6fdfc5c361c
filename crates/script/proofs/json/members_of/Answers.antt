use Rattle.std.proofs.Common.{rules, arith, sym, ap, ◌∙◌, Some}
use Rattle.serde_json.specs.View.{view}
use Rattle.std.proofs.lemmas.Option.{same_Some}
use Rattle.script.proofs.Values.{members_count}
use Rattle.script.proofs.json.members_of.Goals as goal

pub returns-then-len-ne2-clause-none : goal.returns-then-len-ne2-clause-none
returns-then-len-ne2-clause-none c = λ a b has.
    let count = members_count (view c.args.value.now) c.in_ok-as_object.field-0.now.entries
    c.in_ok-as_object.ensures in
    omega (arith, same_Some _ 2 (sym count ∙ has.two), c.if-len-ne2.true, c.len.ensures.len)

pub returns-clause-found : goal.returns-clause-found
returns-clause-found c =
    let count = members_count (view c.args.value.now) c.in_ok-as_object.field-0.now.entries
    c.in_ok-as_object.ensures in
    record {
      two = count ∙ ap Some (omega (arith, c.if-len-ne2.false, c.len.ensures.len));
      first_value = sym c.in_ok-get.ensures;
      second_value = sym c.in_ok-get-2.ensures;
    }
