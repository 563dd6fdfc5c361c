use Rattle.std.proofs.Common.{◌≡◌, length, map, arith, sym, ◌∙◌}
use Rattle.std.proofs.lemmas.List.{length-map}
use Rattle.serde_json.specs.View.{view, items_view}
use Rattle.script.proofs.Values.{is_array, same_length}
use Rattle.script.proofs.json.list_of.Goals as goal
use Rattle.script.proofs.json.list_of.Goals.{then-len-least-via-then-len-least, then-len-least-via-else-len-least+then-most-len}

pub returns-then-len-least-clause-none : goal.returns-then-len-least-clause-none
returns-then-len-least-clause-none c = λ vs has.
    let items = c.in_ok-list.list.now.items in
    let is = is_array (view c.args.value.now) (items_view items) c.in_ok-list.ensures in
    let same = same_length vs (map view items) (sym has.is ∙ is) in
    let count = length-map items view in elim c.then-len-least.branch [
      | then-len-least-via-then-len-least w ↦
          omega (arith, same, count, w.if-len-least.true, c.len.ensures, has.enough)
      | then-len-least-via-else-len-least+then-most-len w ↦
          omega (arith, same, count, w.if-most-len.true, w.len-else-len-least.ensures, has.few)
    ]
