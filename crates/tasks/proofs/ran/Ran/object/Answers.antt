use Rattle.std.proofs.Common.{rules, ◌≡◌, ◌≤◌, ◌<◌, ℕ, List, None, Some, length, slice_get, get_or, refl, ap, sym, subst, ◌∙◌, arith, ltb-true, IfNone}
use Rattle.std.proofs.lemmas.Option.{slice_get_read}
use Rattle.std.specs.Arc.{arc_value}
use Rattle.script.specs.Script.{Named, ScriptView}
use Rattle.script.proofs.Firsts.{object_at}
use Rattle.run_text.proofs.Judged.{parts_named}
use Rattle.tasks.proofs.ran.Ran.object.Goals as goal

pub returns-clause-name : goal.returns-clause-name
returns-clause-name c =
    let h = c.in_ok-name.field-0-1.now in
    let there = object_at c.objects.result.now.entries c.args.place _ c.in_ok-name.ensures.entry in
    let same = c.objects.ensures.value ∙ ap (λ (s : ScriptView). s.objects) c.deref.ensures in (
      h,
      rw (← c.self.view_is) (ap (λ (l : List Named). slice_get l c.args.place) (sym same) ∙ there
          ∙ ap (λ (n : List ℕ). Some (n, h)) (sym c.as_str.ensures.value)),
    )

pub returns-clause-report : goal.returns-clause-report
returns-clause-report c =
    let part = c.in_ok-part.part.now in
    let parts = c.self.inside.report.objects.items in
    let below : c.args.place < length parts =
    omega (arith, ltb-true _ _ (sym c.in_ok-part.ensures.lookup.0), ap length c.deref-2.ensures.value) in
    let found = slice_get_read parts (length parts) c.args.place part refl below
    (c.in_ok-part.ensures.lookup.1 ∙ ap (λ l. get_or l c.args.place part) c.deref-2.ensures.value) in
    rw (← c.self.view_is) found

pub returns-in_err-part-clause-none : goal.returns-in_err-part-clause-none
returns-in_err-part-clause-none c =
    let beyond : length c.self.inside.report.objects.items ≤ c.args.place = search rules in
    let as_many = parts_named _ _ c.self.invariant.0 in
    let few : length (arc_value c.self.inside.script).objects ≤ c.args.place = omega (arith, beyond, as_many) in
    let none : c.from_residual-in_err-part.result ≡ None = search rules in
    subst (λ o. IfNone o (length c.args.self.now.script.objects ≤ c.args.place)) (sym none)
    (rw (← c.self.view_is) few)
