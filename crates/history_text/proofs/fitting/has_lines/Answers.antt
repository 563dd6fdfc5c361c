use Rattle.std.proofs.Common.{◌≡◌, IsTrue, false, ap, subst, refl, rules}
use Rattle.history_text.specs.Below.{Base, IsInRange}
use Rattle.history_text.proofs.BaseFits.{good_text, opening_text, text_good}
use Rattle.history_text.proofs.fitting.has_lines.Goals as goal

not_true : IsTrue false → ⊥
not_true f = cc

pub returns-then-is_opening : goal.returns-then-is_opening
returns-then-is_opening c =
    let header : c.args.base.now.header ≡ c.args.header.now = search rules in (
      λ t. opening_text c.args.header.now c.args.base.now header (c.if-is_opening.ensures.0 refl),
      λ is. refl,
    )

pub returns-then-in_range : goal.returns-then-in_range
returns-then-in_range c =
    let same : c.base.inside.header ≡ c.args.base.now.header = ap (λ (b : Base). b.header) c.base.view_is in
    let header : c.args.base.now.header ≡ c.args.header.now = search rules in (
      λ t. good_text c.args.header.now c.args.base.now header
          (subst IsInRange same (c.if-in_range.ensures.0 refl)) (c.is_good.ensures.0 t),
      λ is. c.is_good.ensures.1 ((text_good c.args.header.now c.args.base.now
          (λ e. not_true (c.if-is_opening.ensures.1 e)) is).1),
    )
