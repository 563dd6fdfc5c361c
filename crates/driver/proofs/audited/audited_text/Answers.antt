use Rattle.std.proofs.Common.{arith, refl}
use Rattle.driver.proofs.Shown.{wrong_early}
use Rattle.driver.specs.declared.telling.Telling.TheVariants.{Audit}
use Rattle.driver.proofs.audited.audited_text.Goals as goal

pub folded-folded-requires : goal.folded-folded-requires
folded-folded-requires c = c.requires.judged.good

pub overflow_add-entries : goal.overflow_add-entries
overflow_add-entries c =
    let k = c.requires.judged in
    omega (arith, k.few, k.count, c.folded-folded.ensures.few)

pub audit_text-requires : goal.audit_text-requires
audit_text-requires c =
    let k = c.requires in
    let early = wrong_early (Audit c.args.notation) k.history c.args.judged.now k.judged _ refl in
    omega (arith, early, c.folded-folded.ensures.few)

pub audit_json-requires : goal.audit_json-requires
audit_json-requires c =
    let k = c.requires in
    let early = wrong_early (Audit c.args.notation) k.history c.args.judged.now k.judged _ refl in
    omega (arith, early, c.folded-folded.ensures.few)
