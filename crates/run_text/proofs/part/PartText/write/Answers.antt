use Rattle.std.proofs.Common.{◌++◌, ◌∙◌, append_assoc, reverse, subst, sym}
use Rattle.run_text.specs.Below.{AppendsFront, entry_lines}
use Rattle.std.proofs.lemmas.Result.{on_err_weaker}
use Rattle.driver.proofs.Gathering.{front_longer, if_failed}
use Rattle.run_text.proofs.Written.{front_behind}
use Rattle.run_text.proofs.part.PartText.write.Goals as goal

pub returns-in_err-write_entries-clause-err : goal.returns-in_err-write_entries-clause-err
returns-in_err-write_entries-clause-err g c =
    let head = c.self.inside.head.items in
    let middle = entry_lines c.self.inside.first (reverse c.self.inside.history.entries) in
    let all = front_behind _ _ _ head (middle ++ c.self.inside.foot.items)
    (rw c.deref.ensures.value at c.in_ok-write_all.ensures.ok)
    (front_longer _ _ middle c.self.inside.foot.items c.in_err-write_entries.ensures.err) in
    if_failed c.from_residual-in_err-write_entries.result _ (subst (AppendsFront _ _)
    (sym (append_assoc head middle c.self.inside.foot.items) ∙ c.self.view_is) all)

pub returns-clause-err : goal.returns-clause-err
returns-clause-err g c =
    let head = c.self.inside.head.items in
    let middle = entry_lines c.self.inside.first (reverse c.self.inside.history.entries) in
    on_err_weaker c.write_all-2.result (λ front. subst (AppendsFront _ _)
    (sym (append_assoc head middle c.self.inside.foot.items) ∙ c.self.view_is)
    (front_behind _ _ _ head (middle ++ c.self.inside.foot.items)
    (rw c.deref.ensures.value at c.in_ok-write_all.ensures.ok)
    (front_behind _ _ _ middle c.self.inside.foot.items c.in_ok-write_entries.ensures.ok
    (rw c.deref-2.ensures.value at front)))) c.write_all-2.ensures.err
