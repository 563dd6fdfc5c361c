use Rattle.std.proofs.Common.{◌≡◌, ◌++◌, ℕ, List, length, map}
use Rattle.std.specs.List.{flat_map}
use Rattle.drawing.specs.Below.{Entry, Start}
use Rattle.drawing.specs.Prelude.{AreStretches, bar_at, tracks_below}
use Rattle.drawing.proofs.stretches.end_all.Given as goal

abbrev pub invariant-loop-of_seat : goal.invariant-loop-of_seat
invariant-loop-of_seat l =
    (s : Start) (from : ℕ) (h : List Entry) → l.number ≡ length h →
    AreStretches s from h (map (λ list. list.items) l.stretches) →
    l.bars.items ≡ l.initial.bars.items
    ++ flat_map (bar_at s from h) (tracks_below s.header.conditions l.of_seat-index)
