use Rattle.std.proofs.Common.{◌≡◌, ap, sym, ◌∙◌}
use Rattle.std.specs.Option.{option_copied}
use Rattle.history_text.specs.Below.{Base, or_opening}
use Rattle.history_text.proofs.Heads.{first_written}
use Rattle.history_text.proofs.history_text.put_any_head.Goals as goal
use Rattle.history_text.proofs.history_text.put_any_head.Goals.{in-Some+else-base-ne0, in_default}

pub returns-clause-ok : goal.returns-clause-ok
returns-clause-ok c =
    let k = c.args.header.now in
    let none : (or_opening k (option_copied c.args.base)).entries ≡ 0 =
    elim c.match-base.branch [
      | in-Some+else-base-ne0 w ↦ ap (λ o. (or_opening k (option_copied o)).entries)
          w.in-Some.is ∙ ap (λ (b : Base). b.entries) (sym w.base.view_is) ∙ w.if-base-ne0.false
      | in_default w ↦ ap (λ o. (or_opening k (option_copied o)).entries) w.in_default.is
    ] in
    first_written (option_copied c.args.base) k _ _ none c.requires.base c.in_ok-put_first_line.ensures.ok
