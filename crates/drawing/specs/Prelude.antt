-- What the proofs of drawing cite of its own definitions, passed on from one place: bars, stretches, marks
-- and the curve of a drawing. Declares nothing.
pub use Rattle.drawing.specs.declared.bar.Bar.{Bar}
pub use Rattle.drawing.specs.declared.kind.Kind.{Kind}
pub use Rattle.drawing.specs.declared.kind.Kind.TheVariants.{Exclusive, Shared, InLine, Asleep}
pub use Rattle.drawing.specs.Barging.{askers, passes, barges}
pub use Rattle.drawing.specs.Bars.{lasting, bar_at, ended_by, ended, bars}
pub use Rattle.drawing.specs.Curve.{amount_of, point, curve}
pub use Rattle.drawing.specs.IsBar.{level_behind, IsKind, IsRun, IsBar}
pub use Rattle.drawing.specs.Levels.{one_if, level, Track, track, level_of, asleep_kinds, kinds, tracks_of_seat, tracks_below, tracks}
pub use Rattle.drawing.specs.Marks.{sign_at, mark_of, marks}
pub use Rattle.drawing.specs.Stretches.{AreStretches, fresh, stretch, stretches}
