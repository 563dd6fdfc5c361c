use Rattle.std.proofs.Common.{◌++◌, List, Vec, Global, ap, ◌∙◌, map, subst, sym}
use Rattle.std.specs.List.{flat_map}
use Rattle.drawing.specs.Prelude.{AreStretches, bar_at, tracks}
use Rattle.drawing.specs.declared.bar.Stretch.{Stretch}
use Rattle.drawing.proofs.Walks.{items_of}
use Rattle.drawing.proofs.drawing.Drawing.finish.Goals as goal

pub returns-clause-bars : goal.returns-clause-bars
returns-clause-bars c = λ s from h was.
    c.in_ok-end_all.ensures s from h was.count
    (subst (λ (all : List (Vec Stretch Global)). AreStretches s from h (map items_of all))
    (sym c.deref.ensures.value) was.under_way)
    ∙ ap (λ xs. xs ++ flat_map (bar_at s from h) (tracks s.header)) was.ended

pub returns-clause-marks : goal.returns-clause-marks
returns-clause-marks c = λ s from h was. was.marked

pub returns-clause-curve : goal.returns-clause-curve
returns-clause-curve c = λ s from h was. was.points
