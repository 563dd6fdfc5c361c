use Rattle.std.proofs.Common.{◌≡◌, ◌++◌, take}
use Rattle.std.specs.List.{flat_map}
use Rattle.drawing.specs.inner.Stretches.{bar_of}
use Rattle.drawing.proofs.stretches.end_seat.Given as goal

abbrev pub invariant-loop-stretch : goal.invariant-loop-stretch
invariant-loop-stretch l =
    l.bars.items ≡ l.initial.bars.items ++ flat_map (bar_of l.number) (take l.stretch-index l.stretches)
