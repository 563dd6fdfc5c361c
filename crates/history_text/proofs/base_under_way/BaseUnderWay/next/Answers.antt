use Rattle.std.proofs.Common.{◌+◌, ◌∷◌, ◌++◌, refl, sym, ap, subst, ◌∙◌, arith}
use Rattle.std.proofs.lemmas.Bool.{false≢true}
use Rattle.history_text.specs.Below.{Base}
use Rattle.streams.proofs.Growing.{broken}
use Rattle.history_text.specs.Prelude.{base_line, AllSeated}
use Rattle.history_text.proofs.BaseLinesRead.{begins_next, few, has_whole, may_next, view_of, whole_has}
use Rattle.history_text.proofs.BaseReadings.{bad_long, bad_other, bad_told, lacks_line}
use Rattle.history_text.proofs.base_under_way.BaseUnderWay.next.Goals as goal

pub overflow_add-result : goal.overflow_add-result
overflow_add-result c = omega (arith, few _ _ _ c.self.invariant, c.self.invariant.count)

pub overflow_add-result-else-is_whole : goal.overflow_add-result-else-is_whole
overflow_add-result-else-is_whole c = omega (arith, few _ _ _ c.self.invariant, c.self.invariant.count)

pub overflow_add-result-else-allows : goal.overflow_add-result-else-allows
overflow_add-result-else-allows c = omega (arith, few _ _ _ c.self.invariant, c.self.invariant.count)

pub returns-then-allows-clause-line : goal.returns-then-allows-clause-line
returns-then-allows-clause-line c =
    let told = c.in-Some-base_line_of.told in
    let after = c.in-Some.after.now in
    rw (← c.self.view_is) (
      begins_next _ _ _ c.self.invariant told (c.allows.ensures.0 c.if-allows.true),
      (
        after,
        c.in-Some.ensures.0 ∙ ap (λ l. l ++ 10 ∷ after) c.in-Some-base_line_of.ensures.found.1
            ∙ sym (broken (base_line told) after),
        refl,
      ),
    )

pub returns-else-allows-clause-line : goal.returns-else-allows-clause-line
returns-else-allows-clause-line c =
    let told = c.in-Some-base_line_of.told in
    let spelt = c.in-Some-base_line_of.ensures.found in
    rw (← c.self.view_is, ← c.self.invariant.count)
    (bad_told _ _ _ _ c.in-Some.ensures.0 c.in-Some.ensures.1 told spelt.0 spelt.1
    (λ begins. false≢true (sym c.if-allows.false ∙ c.allows.ensures.1
    (may_next _ _ _ c.self.invariant told begins))))

pub returns-then-is_whole-clause-line : goal.returns-then-is_whole-clause-line
returns-then-is_whole-clause-line c =
    let self = c.self.inside in
    rw (← c.self.view_is) (
      has_whole _ _ _ c.self.invariant (subst (λ (b : Base). AllSeated b.header self.so_far) c.base.view_is
          (c.is_whole.ensures.0 c.if-is_whole.true)),
      lacks_line (view_of self.so_far self.base) _ _ _ c.in-Some.ensures.0 c.in-Some.ensures.1
          c.in-None.ensures.none,
    )

pub returns-else-is_whole-clause-line : goal.returns-else-is_whole-clause-line
returns-else-is_whole-clause-line c =
    let self = c.self.inside in
    rw (← c.self.view_is, ← c.self.invariant.count)
    (bad_other _ _ _ _ c.in-Some.ensures.0 c.in-Some.ensures.1 c.in-None.ensures.none
    (λ has. false≢true (sym c.if-is_whole.false ∙ c.is_whole.ensures.1
    (subst (λ (b : Base). AllSeated b.header self.so_far) (sym c.base.view_is)
    (whole_has _ _ _ c.self.invariant has)))))

pub returns-then-line-ge-LINE_BYTES-clause-line : goal.returns-then-line-ge-LINE_BYTES-clause-line
returns-then-line-ge-LINE_BYTES-clause-line c =
    rw (← c.self.view_is, ← c.self.invariant.count)
    (bad_long _ _ _ _ c.in-Some.ensures.0 c.in-Some.ensures.1 (omega (arith, c.if-line-ge-LINE_BYTES.true)))
